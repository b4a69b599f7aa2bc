-- Where the streams are that a stream copies.
use Rattle.std.specs.Prelude.{ℕ, Bool, false, ◌&&◌, ◌||◌, Option, Some, None, option_map, List, map, ◌++◌, codes}
use Rattle.std.specs.Option.{is_some}
use Rattle.std.specs.List.{list_any}
use Rattle.js_json_stream_bodies.specs.declared.stream.config.Config.{Config}
use Rattle.js_json_stream_bodies.specs.declared.stream.source.External.{External}
use Rattle.js_json_stream_bodies.specs.declared.stream.source.Source.{Source}

-- both a domain and an external say where it is
abbrev pub has_two_places : Source → Bool
has_two_places source = is_some source.domain && is_some source.external

-- so is a mirror, if there is one
abbrev pub mirror_has_two_places : Option Source → Bool
mirror_has_two_places None = false
mirror_has_two_places (Some source) = has_two_places source

-- so is one of the sources
abbrev pub a_source_has_two_places : Option (List Source) → Bool
a_source_has_two_places None = false
a_source_has_two_places (Some sources) = list_any has_two_places sources

-- so is the mirror or one of the sources
abbrev pub two_places : Config → Bool
two_places config = mirror_has_two_places config.mirror || a_source_has_two_places config.sources

-- what the subjects of the API begin with in a domain
abbrev pub domain_prefix : List ℕ → List ℕ
domain_prefix domain = codes "$JS." ++ (domain ++ codes ".API")

-- a stream of that domain
abbrev pub in_domain : List ℕ → External
in_domain domain = record { api_prefix = domain_prefix domain; delivery_prefix = None }

-- a domain alone becomes an external
abbrev pub external_of : Option (List ℕ) → Option External → Option External
external_of domain (Some external) = Some external
external_of None None = None
external_of (Some domain) None = Some (in_domain domain)

-- the stream that is copied, with its domain as an external
abbrev pub placed : Source → Source
placed source = record source { external = external_of source.domain source.external }

-- the configuration in which all domains are externals
abbrev pub placed_in : Config → Config
placed_in config = record config { mirror = option_map placed config.mirror; sources = option_map (map placed) config.sources }
