-- Values by numbers that are given once.
use Rattle.std.specs.Prelude.{ℕ, ◌≡◌, Option}
use Rattle.std.specs.Ordering.{nat_cmp}
use Rattle.std.specs.BTreeMap.{btree_map_len, get}
use Rattle.js_link_outbox.specs.declared.numbered.Numbered.{Numbered}

-- the value of a number
abbrev pub at : {T : Type 0} → Numbered T → ℕ → Option T
at {T} m n = get nat_cmp m.map n

-- the same values by the same numbers
pub record IsSame {T : Type 0} (old new : Numbered T) : Type 0 where
  pub values : at new ≡ at old
  pub next : new.next ≡ old.next
  pub len : btree_map_len new.map ≡ btree_map_len old.map
