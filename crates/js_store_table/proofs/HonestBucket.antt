-- The changes that an honest server's yields tell keep the table of the bucket's log.
use Rattle.std.proofs.Common.{◌≡◌, ℕ, zero, suc, ◌<◌, ◌≤◌, List, [], ◌∷◌, map, length, slice_index, Some, Contains, ◌⊎◌, inl, inr, refl, sym, ap, ◌∙◌, subst, arith}
use Rattle.std.proofs.lemmas.Grind.{get_or_default_zero}
use Rattle.std.specs.Prelude.{unwrap_or}
use Rattle.std.specs.List.{AllByRecursion}
use Rattle.js_ordered_table.specs.declared.setup.OrderedSetup.{OrderedSetup}
use Rattle.js_ordered_table.specs.Texts.{configured_start}
use Rattle.js_ordered_table.specs.Gapless as gapless
use Rattle.js_ordered_table.specs.Gapless.{Logged, Server, entry_at, IsGapless, sequences, first_due}
use Rattle.js_event_log.specs.Projection as projection
use Rattle.js_event_log.specs.RunProjection.{as_entry}
use Rattle.js_event_log.proofs.HonestLog.{gapless_rises}
use Rattle.js_store_keys.specs.declared.entry.Entry.{Entry}
use Rattle.js_store_table.specs.BucketLog.{RisesAbove, IsAmong, IsChange, IsBucketLog, TellYields, AreOvertaken, KeepsTable, HasLogsRows, last_from}
use Rattle.js_store_table.specs.TableRows.{KeyRows}
use Rattle.js_store_table.proofs.KeptChanges.{same_table}

-- ---- changes that rise

among_above : (low : ℕ) (es : List Entry) (x : Entry) → RisesAbove low es → IsAmong x es → low < x.revision
among_above low [] x rises among = absurd among
among_above low (e ∷ es) x rises (inl same) = subst (λ (y : Entry). low < y.revision) same rises.0
among_above low (e ∷ es) x rises (inr among) = omega (arith, rises.0, among_above e.revision es x rises.1 among)

-- a change is not that of a lower revision
differ : {B : Type 0} (a b : Entry) → a.revision < b.revision → a ≡ b → B
differ a b less same = let is : a.revision ≡ b.revision = ap (λ (e : Entry). e.revision) same in absurd (omega (arith, less, is))

-- of changes that rise, one has a revision
only_one : (low : ℕ) (es : List Entry) (a b : Entry) → RisesAbove low es → IsAmong a es → IsAmong b es → a.revision ≡ b.revision → a ≡ b
only_one low [] a b rises one two is = absurd one
only_one low (e ∷ es) a b rises (inl one) (inl two) is = sym one ∙ two
only_one low (e ∷ es) a b rises (inl one) (inr two) is =
    let above : e.revision < b.revision = among_above e.revision es b rises.1 two in
    absurd (let at : e.revision ≡ a.revision = ap (λ (x : Entry). x.revision) one in omega (arith, above, at, is))
only_one low (e ∷ es) a b rises (inr one) (inl two) is =
    let above : e.revision < a.revision = among_above e.revision es a rises.1 one in
    absurd (let at : e.revision ≡ b.revision = ap (λ (x : Entry). x.revision) two in omega (arith, above, at, is))
only_one low (e ∷ es) a b rises (inr one) (inr two) is = only_one e.revision es a b rises.1 one two is

-- ---- what keeps the table

keeps : (h : ℕ) (removed : List ℕ) (low : ℕ) (log told : List Entry) → RisesAbove low log → RisesAbove low told → ((t : Entry) → IsAmong t told → IsAmong t log)
    → ((e : Entry) → IsAmong e log → IsAmong e told ⊎ Contains removed e.revision) → AreOvertaken h removed log → KeepsTable h log told
keeps h removed low [] [] rise rises within present over = refl
keeps h removed low [] (t ∷ told) rise rises within present over = absurd (within t (inl refl))
keeps h removed low (e ∷ log) [] rise rises within present over =
    by_presence (keeps h removed e.revision log [] rise.1 tt (λ t among. absurd among) (λ x among. present x (inr among)) over.1) (present e (inl refl))
  where
    by_presence : KeepsTable h log [] → IsAmong e [] ⊎ Contains removed e.revision → KeepsTable h (e ∷ log) []
    by_presence rest (inl among) = absurd among
    by_presence rest (inr gone) = inr (over.0 gone, rest)
keeps h removed low (e ∷ log) (t ∷ told) rise rises within present over =
    by_head (λ zs above among has. keeps h removed e.revision log zs rise.1 above among has over.1) (within t (inl refl))
  where
    -- the first change was told
    rest_within : e ≡ t → (x : Entry) → IsAmong x told → (e ≡ x) ⊎ IsAmong x log → IsAmong x log
    rest_within same x among (inl is) = differ t x (among_above t.revision told x rises.1 among) (sym same ∙ is)
    rest_within same x among (inr there) = there

    rest_present : e ≡ t → (x : Entry) → IsAmong x log → ((t ≡ x) ⊎ IsAmong x told) ⊎ Contains removed x.revision → IsAmong x told ⊎ Contains removed x.revision
    rest_present same x among (inl (inl is)) = differ e x (among_above e.revision log x rise.1 among) (same ∙ is)
    rest_present same x among (inl (inr there)) = inl there
    rest_present same x among (inr gone) = inr gone

    -- it was not
    skipped_within : e.revision < t.revision → (x : Entry) → IsAmong x (t ∷ told) → (e ≡ x) ⊎ IsAmong x log → IsAmong x log
    skipped_within less x (inl at) (inl is) = differ e t less (is ∙ sym at)
    skipped_within less x (inr there) (inl is) = differ e x (omega (arith, less, among_above t.revision told x rises.1 there)) is
    skipped_within less x among (inr there) = there

    skipped : ((zs : List Entry) → RisesAbove e.revision zs → ((x : Entry) → IsAmong x zs → IsAmong x log) → ((x : Entry) → IsAmong x log → IsAmong x zs ⊎ Contains removed x.revision) → KeepsTable h log zs)
        → e.revision < t.revision → ((t ≡ e) ⊎ IsAmong e told) ⊎ Contains removed e.revision → KeepsTable h (e ∷ log) (t ∷ told)
    skipped goes less (inl (inl is)) = differ e t less (sym is)
    skipped goes less (inl (inr there)) = absurd (let more = among_above t.revision told e rises.1 there in omega (arith, less, more))
    skipped goes less (inr gone) =
        inr (over.0 gone, goes (t ∷ told) (less, rises.1) (λ x among. skipped_within less x among (within x among)) (λ x among. present x (inr among)))

    by_head : ((zs : List Entry) → RisesAbove e.revision zs → ((x : Entry) → IsAmong x zs → IsAmong x log) → ((x : Entry) → IsAmong x log → IsAmong x zs ⊎ Contains removed x.revision) → KeepsTable h log zs)
        → (e ≡ t) ⊎ IsAmong t log → KeepsTable h (e ∷ log) (t ∷ told)
    by_head goes (inl same) =
        inl (
          told,
          ap (λ (x : Entry). x ∷ told) (sym same),
          goes told (subst (λ (x : Entry). RisesAbove x.revision told) (sym same) rises.1) (λ x among. rest_within same x among (within x (inr among)))
              (λ x among. rest_present same x among (present x (inr among))),
        )
    by_head goes (inr there) = skipped goes (among_above e.revision log t rise.1 there) (present e (inl refl))

-- ---- yields and changes

abbrev revisions : List Entry → List ℕ
revisions es = map (λ (e : Entry). e.revision) es

first_same : (a b : ℕ) (ns ms : List ℕ) → a ∷ ns ≡ b ∷ ms → a ≡ b
first_same a b ns ms is = cc

rest_same : (a b : ℕ) (ns ms : List ℕ) → a ∷ ns ≡ b ∷ ms → ns ≡ ms
rest_same a b ns ms is = cc

rises_told : (low : ℕ) (ys : List gapless.Entry) (told : List Entry) → revisions told ≡ sequences ys → projection.RisesAbove low (map as_entry ys) → RisesAbove low told
rises_told low ys [] is rises = tt
rises_told low [] (t ∷ told) is rises = cc
rises_told low (y ∷ ys) (t ∷ told) is rises =
    let at : t.revision ≡ y.sequence = first_same t.revision y.sequence (revisions told) (sequences ys) is in (
      subst (λ n. low < n) (sym at) rises.0,
      rises_told t.revision ys told (rest_same t.revision y.sequence (revisions told) (sequences ys) is) (subst (λ n. projection.RisesAbove n (map as_entry ys)) (sym at) rises.1),
    )

-- the change with a revision
record HasChange (told : List Entry) (q : ℕ) : Type 0 where
  change : Entry
  among : IsAmong change told
  at : change.revision ≡ q

change_at : (told : List Entry) (q k : ℕ) → k < length (revisions told) → slice_index (revisions told) k ≡ q → HasChange told q
change_at [] q k inside at = absurd (omega (arith, inside))
change_at (t ∷ told) q zero inside at = record { change = t; among = inl refl; at = at }
change_at (t ∷ told) q (suc k) inside at =
    let rest : HasChange told q = change_at told q k (omega (arith, inside)) at in
    record { change = rest.change; among = inr rest.among; at = rest.at }

record HasPlace (rs : List ℕ) (q : ℕ) : Type 0 where
  place : ℕ
  inside : place < length rs
  at : slice_index rs place ≡ q

last_place : (low : ℕ) (t : Entry) (told : List Entry) → HasPlace (revisions (t ∷ told)) (last_from low (t ∷ told))
last_place low t [] = record { place = zero; inside = omega arith; at = refl }
last_place low t (u ∷ told) =
    let rest : HasPlace (revisions (u ∷ told)) (last_from t.revision (u ∷ told)) = last_place t.revision u told in
    record { place = suc rest.place; inside = omega (arith, rest.inside); at = rest.at }

place_of_last : (told : List Entry) → 0 < last_from 0 told → HasPlace (revisions told) (last_from 0 told)
place_of_last [] above = absurd (omega (arith, above))
place_of_last (t ∷ told) above = last_place 0 t told

of_all : (P : Entry → Type 0) (es : List Entry) (x : Entry) → AllByRecursion P es → IsAmong x es → P x
of_all P [] x all among = absurd among
of_all P (e ∷ es) x all (inl same) = subst P same all.0
of_all P (e ∷ es) x all (inr among) = of_all P es x all.1 among

above_zero : (log : List Logged) (q : ℕ) (entry : Logged) → entry_at log q ≡ Some entry → 0 < q
above_zero log zero entry held = cc
above_zero log (suc place) entry held = omega arith

below_or_at : (a b : ℕ) → a ≤ b → (a < b) ⊎ (a ≡ b)
below_or_at a b le = grind arith

-- ---- the promise

module _ (s : Server) (setup : OrderedSetup) (ys : List gapless.Entry) (prefix : List ℕ) (start : ℕ) (log told : List Entry)
    (whole : IsGapless s setup ys) (configured : configured_start setup ≡ Some start) (bucket : IsBucketLog s setup prefix start (last_from 0 told) log)
    (tells : TellYields ys log told) where
  due : first_due setup ys ≡ start
  due = ap (λ o. unwrap_or o (slice_index (sequences ys) 0)) configured

  -- the log's change with a told revision was told
  told_there : (e : Entry) → IsAmong e log → HasChange told e.revision → IsAmong e told
  told_there e among has =
      let logged : IsAmong has.change log = of_all (λ x. IsAmong x log) told has.change tells.logged has.among in
      let same : has.change ≡ e = only_one 0 log has.change e bucket.rising logged among has.at in
      subst (λ x. IsAmong x told) same has.among

  there_at : (q : ℕ) → Contains (revisions told) q → HasChange told q
  there_at q (k, inside, is) = change_at told q k inside (sym (get_or_default_zero (revisions told) k q inside) ∙ is)

  by_sequences : (e : Entry) → IsAmong e log → Contains (sequences ys) e.revision ⊎ Contains s.removed e.revision → IsAmong e told ⊎ Contains s.removed e.revision
  by_sequences e among (inr gone) = inr gone
  by_sequences e among (inl there) = inl (told_there e among (there_at e.revision (subst (λ rs. Contains rs e.revision) (sym tells.revisions) there)))

  by_order : (e : Entry) → IsAmong e log → IsChange s setup prefix start (last_from 0 told) e → HasPlace (revisions told) (last_from 0 told)
      → (e.revision < last_from 0 told) ⊎ (e.revision ≡ last_from 0 told) → IsAmong e told ⊎ Contains s.removed e.revision
  by_order e among is end (inr at) = inl (told_there e among (change_at told e.revision end.place end.inside (end.at ∙ sym at)))
  by_order e among is end (inl below) =
      let place : HasPlace (sequences ys) (last_from 0 told) = subst (λ rs. HasPlace rs (last_from 0 told)) tells.revisions end in
      by_sequences e among
      (whole.whole.whole e.revision place.place is.matching (let from = is.from in omega (arith, due, from)) place.inside (let at = place.at in omega (arith, at, below)))

  present : (e : Entry) → IsAmong e log → IsAmong e told ⊎ Contains s.removed e.revision
  present e among =
      let is : IsChange s setup prefix start (last_from 0 told) e = of_all (IsChange s setup prefix start (last_from 0 told)) log e bucket.changes among in
      let some : 0 < e.revision = above_zero s.log e.revision _ is.held in
      let within = is.within in
      by_order e among is (place_of_last told (omega (arith, some, within))) (below_or_at e.revision (last_from 0 told) within)

  pub yields_keep : (h : ℕ) → AreOvertaken h s.removed log → KeepsTable h log told
  yields_keep h over =
      keeps h s.removed 0 log told bucket.rising (rises_told 0 ys told tells.revisions (gapless_rises s setup ys whole))
      (λ t among. of_all (λ x. IsAmong x log) told t tells.logged among) present over

-- the rows of the changes told are those of the log
pub logs_rows : (s : Server) (setup : OrderedSetup) (ys : List gapless.Entry) (h : ℕ) (rows : KeyRows) (told : List Entry) → HasLogsRows s setup ys h rows told
logs_rows s setup ys h rows told prefix start log whole configured bucket tells over is =
    same_table h log told rows (yields_keep s setup ys prefix start log told whole configured bucket tells h over) is
