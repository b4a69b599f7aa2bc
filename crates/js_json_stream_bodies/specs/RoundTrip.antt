-- What a configuration is read as once it was written.
use Rattle.std.specs.Prelude.{map, None, option_map, FitsSigned}
use Rattle.std.specs.Int.{w64}
use Rattle.js_json_stream_bodies.specs.declared.stream.source.Source.{Source}
use Rattle.js_json_stream_bodies.specs.declared.stream.config.Config.{Config}

-- without its domain, which is not written
abbrev pub without_domain : Source → Source
without_domain s = record s { domain = None }

-- the same of all streams that are copied
abbrev pub without_domains : Config → Config
without_domains c = record c {
  mirror = option_map without_domain c.mirror;
  sources = option_map (map without_domain) c.sources;
}

-- the numbers with a sign are those of i64
abbrev pub HasNumbers : Config → Type 0
HasNumbers c =
    FitsSigned w64 c.max_messages × FitsSigned w64 c.max_messages_per_subject × FitsSigned w64 c.max_bytes
    × FitsSigned w64 c.max_message_size
