-- The subjects of calls on consumers, which stand under the prefix.
use Rattle.std.specs.Prelude.{ℕ, Option, Some, None, List, codes}
use Rattle.js_json.specs.declared.consumer.config.Config.{Config}
use Rattle.js_base.specs.ApiSubject.{under, named_subject}

-- the first that is there
abbrev pub or_else : Option (List ℕ) → Option (List ℕ) → Option (List ℕ)
or_else (Some name) second = Some name
or_else None second = second

-- the name that a configuration asks for, and else its durable name
abbrev pub name_of : Config → Option (List ℕ)
name_of config = or_else config.name config.durable_name

-- a consumer that may have a name
abbrev pub perhaps_named : List ℕ → Option (List ℕ) → List ℕ → List ℕ
perhaps_named words None filter = words
perhaps_named words (Some name) filter = named_subject words name filter

-- where a consumer is made: on its stream, by its name if it has one, and by the subject that it reads
abbrev pub create_subject : List ℕ → Config → List ℕ
create_subject stream config = perhaps_named (under (codes "CONSUMER.CREATE") stream) (name_of config) config.filter_subject
