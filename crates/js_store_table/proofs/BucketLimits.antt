-- What the limits of a bucket remove was overtaken, and so the last change of each key stays.
use Rattle.std.proofs.Common.{◌≡◌, ℕ, zero, Bool, true, false, List, [], ◌∷◌, inl, inr, refl, subst, arith}
use Rattle.js_store_keys.specs.declared.entry.Entry.{Entry}
use Rattle.js_store_table.specs.BucketLog.{AreOvertaken, IsOvertaken, Overtake}
use Rattle.js_store_table.specs.KeyHistory.{changes_of}
use Rattle.js_store_table.specs.Removals.{Limits, KeepsLast, LastStays, MayExpire, MayBeDropped, MayRemove, LimitsOvertake, LimitsKeepLast}
use Rattle.js_store_table.specs.WorkedLimits.{two_kept, RemovesOvertaken, RemovesByAge}
use Rattle.js_store_table.specs.WorkedLogs.{first_removed, three_changes, two_changes, last_one, put}
use Rattle.js_store_table.proofs.WorkedBuckets.{lacks_an_entry, no_purge, stays}

not_both : (b : Bool) → b ≡ true → b ≡ false → ⊥
not_both true holds fails = cc
not_both false holds fails = cc

-- ---- one message

never_expires : (limits : Limits) → KeepsLast limits → MayExpire limits → ⊥
never_expires limits keeps (inl aged) = let none : limits.max_age ≡ 0 = keeps.without_age in omega (arith, aged, none)
never_expires limits keeps (inr own) = not_both limits.allows_message_ttl own keeps.without_ttl

never_dropped : (limits : Limits) → KeepsLast limits → MayBeDropped limits → ⊥
never_dropped limits keeps (inl full) = not_both limits.refuses_when_full keeps.refuses full
never_dropped limits keeps (inr (inl acknowledged)) = not_both limits.keeps_acknowledged keeps.retains acknowledged
never_dropped limits keeps (inr (inr deleted)) = not_both limits.denies_delete keeps.denies deleted

by_reason : (limits : Limits) (entry : Entry) (later : List Entry) → KeepsLast limits → MayRemove limits entry later → IsOvertaken limits.messages_per_subject entry later
by_reason limits entry later keeps (inl above) = inr (omega (arith, above.0, above.1))
by_reason limits entry later keeps (inr (inl rolled)) = inl rolled
by_reason limits entry later keeps (inr (inr (inl expired))) = absurd (never_expires limits keeps expired)
by_reason limits entry later keeps (inr (inr (inr dropped))) = absurd (never_dropped limits keeps dropped)

-- ---- all of them

pub limits_overtake : (limits : Limits) (removed : List ℕ) (log : List Entry) → LimitsOvertake limits removed log
limits_overtake limits removed [] keeps within = tt
limits_overtake limits removed (entry ∷ log) keeps within =
    (λ gone. by_reason limits entry log keeps (within.0 gone), limits_overtake limits removed log keeps within.1)

-- no changes overtake nothing
none_overtakes : (history : ℕ) (later : List Entry) → later ≡ [] → Overtake history later → ⊥
none_overtakes history later none over = by_none (subst (λ es. Overtake history es) none over)
  where
    by_none : Overtake history [] → ⊥
    by_none (inl has) = has
    by_none (inr full) = omega (arith, full)

overtaken_last : (history : ℕ) (removed : List ℕ) (log : List Entry) → AreOvertaken history removed log → LastStays removed log
overtaken_last history removed [] over = tt
overtaken_last history removed (entry ∷ log) over =
    (λ none gone. none_overtakes history (changes_of entry.key log) none (over.0 gone), overtaken_last history removed log over.1)

pub limits_keep_last : (limits : Limits) (removed : List ℕ) (log : List Entry) → LimitsKeepLast limits removed log
limits_keep_last limits removed log keeps within = overtaken_last limits.messages_per_subject removed log (limits_overtake limits removed log keeps within)

-- ---- the worked limits

kept_two : KeepsLast (two_kept 0)
kept_two = record { without_age = refl; without_ttl = refl; refuses = refl; retains = refl; denies = refl }

-- one later message is not above the limit of two
one_is_within : MayRemove (two_kept 0) (put 1 []) last_one → ⊥
one_is_within (inl above) = absurd (let full = above.1 in omega (arith, full))
one_is_within (inr (inl rolled)) = no_purge rolled
one_is_within (inr (inr (inl expired))) = never_expires (two_kept 0) kept_two expired
one_is_within (inr (inr (inr dropped))) = never_dropped (two_kept 0) kept_two dropped

pub removes_overtaken : RemovesOvertaken (two_kept 0) first_removed three_changes two_changes
removes_overtaken = record {
  keeps_last = kept_two;
  within = (λ gone. inl (omega arith, omega arith), (λ gone. stays 2 (omega arith) gone, (λ gone. stays 3 (omega arith) gone, tt)));
  not_sooner = λ within. one_is_within (within.0 (zero, omega arith, refl));
}

pub removes_by_age : RemovesByAge (two_kept 1_000_000_000) 2 first_removed two_changes last_one
removes_by_age = record {
  expires = λ keeps. let none : 1_000_000_000 ≡ 0 = keeps.without_age in omega (arith, none);
  within = (λ gone. inr (inr (inl (inl (omega arith)))), (λ gone. stays 2 (omega arith) gone, tt));
  lacks = lacks_an_entry;
}
