-- What frames do, one after another, and what is read of bytes.
use Rattle.std.proofs.Common.{◌≡◌, ◌≢◌, ℕ, zero, suc, ◌+◌, ◌-◌, ◌<◌, ◌≤◌, ◌^◌, min, Bool, true, false, List, [], ◌∷◌, ◌++◌, length, drop, Option, Some, None, Result, Ok, Err, refl, sym, ap, subst, ◌∙◌, arith}
use Rattle.std.proofs.lemmas.List.{append-nil, length-drop}
use Rattle.js_link_outbox.specs.declared.outbox.OutboxLink.{OutboxLink}
use Rattle.js_link_wire.specs.declared.damage.Damage.{Damage}
use Rattle.js_link_wire.specs.declared.frame.ServerFrame.{ServerFrame}
use Rattle.js_link_wire.specs.declared.first_frame.Reading.{Reading}
use Rattle.js_link_wire.specs.declared.first_frame.Reading.TheVariants as readings
use Rattle.js_link_wire.specs.FrameReader.{taken_off, next_frame, AreRead}
use Rattle.js_link_wire.specs.FirstFrame.{read}
use Rattle.js_link_wire.proofs.Stable.{damaged_stays}
use Rattle.js_link_connection.specs.declared.connection.Connection.{Connection}
use Rattle.js_link_connection.specs.declared.error.ConnectionError.{ConnectionError}
use Rattle.js_link_connection.specs.declared.error.ConnectionError.TheVariants as failed
use Rattle.js_link_connection.specs.Delivery.{EndsBy, Ends, IsSame, IsSameLink, Reads, Receives, Takes, TakesAll, TakesNext, place_after}

-- ---- frames after frames

pub same_link : (a : OutboxLink) → IsSameLink a a
same_link a = record { view = refl; sends = record { items = refl; same_front = refl } }

pub same_here : (a : Connection) → IsSame a a
same_here a = record { link = same_link a.link; writer = refl; info = refl; unanswered = refl }

link_then : (a b c : OutboxLink) → IsSameLink a b → IsSameLink b c → IsSameLink a c
link_then a b c h k = record { view = k.view ∙ h.view; sends = record { items = k.sends.items ∙ h.sends.items; same_front = k.sends.same_front ∙ h.sends.same_front } }

pub same_then : (a b c : Connection) → IsSame a b → IsSame b c → IsSame a c
same_then a b c h k = record { link = link_then a.link b.link c.link h.link k.link; writer = k.writer ∙ h.writer; info = k.info ∙ h.info; unanswered = k.unanswered ∙ h.unanswered }

-- a connection that means the same takes the same
pub takes_from_same : (frames : List ServerFrame) (a b c : Connection) → IsSame a b → TakesAll frames b c → TakesAll frames a c
takes_from_same [] a b c same later = same_then a b c same later
takes_from_same (frame ∷ frames) a b c same later = (later.0, later.1, same_then a b later.0 same later.2, later.3, later.4)

pub takes_as_one : (frames others : List ServerFrame) (first middle last : Connection) → TakesAll frames first middle → TakesAll others middle last → TakesAll (frames ++ others) first last
takes_as_one [] others first middle last h later = takes_from_same others first middle last h later
takes_as_one (frame ∷ frames) others first middle last h later = (h.0, h.1, h.2, h.3, takes_as_one frames others h.1 middle last h.4 later)

-- ---- what is read of bytes is determined

abbrev Stops : ℕ → List ℕ → Type 0
Stops most left = (frame : ServerFrame) (rest : List ℕ) → next_frame most left ≢ Ok (Some (frame, rest))

abbrev frame_in : ServerFrame → Result (Option (ServerFrame × List ℕ)) Damage → ServerFrame
frame_in d (Ok (Some found)) = found.0
frame_in d (Ok None) = d
frame_in d (Err damage) = d

abbrev rest_in : List ℕ → Result (Option (ServerFrame × List ℕ)) Damage → List ℕ
rest_in d (Ok (Some found)) = found.1
rest_in d (Ok None) = d
rest_in d (Err damage) = d

pub read_alone : (most : ℕ) (bytes left last : List ℕ) (frames others : List ServerFrame) → AreRead most bytes frames left → AreRead most bytes others last → Stops most left → Stops most last
    → (frames ≡ others) × (left ≡ last)
read_alone most bytes left last [] [] h k stop end = (refl, sym h ∙ k)
read_alone most bytes left last [] (other ∷ others) h k stop end = absurd (stop other k.0 (ap (next_frame most) (sym h) ∙ k.1))
read_alone most bytes left last (frame ∷ frames) [] h k stop end = absurd (end frame h.0 (ap (next_frame most) (sym k) ∙ h.1))
read_alone most bytes left last (frame ∷ frames) (other ∷ others) h k stop end =
    let same_frame : frame ≡ other = ap (frame_in frame) (sym h.1 ∙ k.1) in
    let same_rest : k.0 ≡ h.0 = ap (rest_in h.0) (sym k.1 ∙ h.1) in
    let later = read_alone most h.0 left last frames others h.2 (subst (λ (rest : List ℕ). AreRead most rest others last) same_rest k.2) stop end in
    (ap (λ (f : ServerFrame). f ∷ frames) same_frame ∙ ap (λ (fs : List ServerFrame). other ∷ fs) later.0, later.1)

-- ---- one frame more

-- some frames were read, and each did what it does
pub record SoFar (most : ℕ) (bytes : List ℕ) (old new : Connection) : Type 0 where
  pub taken : List ServerFrame
  pub read : AreRead most bytes taken new.came
  pub takes : TakesAll taken old new
  pub fewer : length new.came ≤ length bytes
  pub place : new.place ≡ place_after old.place (length bytes - length new.came)

read_more : (most : ℕ) (bytes left rest : List ℕ) (frames : List ServerFrame) (frame : ServerFrame) → AreRead most bytes frames left → next_frame most left ≡ Ok (Some (frame, rest))
    → AreRead most bytes (frames ++ frame ∷ []) rest
read_more most bytes left rest [] frame h next = (rest, ap (next_frame most) h ∙ next, refl)
read_more most bytes left rest (first ∷ frames) frame h next = (h.0, h.1, read_more most h.0 left rest frames frame h.2 next)

-- places add up
place_more : (p a b : ℕ) → place_after (place_after p a) b ≡ place_after p (a + b)
place_more p zero b = let e : b ≡ zero + b = omega arith in ap (place_after p) e
place_more p (suc a) zero = let e : suc a ≡ suc a + zero = omega arith in ap (place_after p) e
place_more p (suc a) (suc b) =
    let e : suc (a + suc b) ≡ suc a + suc b = omega arith in
    let same : min (min (p + suc a) (2 ^ 64 - 1) + suc b) (2 ^ 64 - 1) ≡ min (p + suc (a + suc b)) (2 ^ 64 - 1) = omega arith in
    same ∙ ap (place_after p) e

place_then : (p q r b c n : ℕ) → c ≤ b → n ≤ c → q ≡ place_after p (b - c) → r ≡ place_after q (c - n) → r ≡ place_after p (b - n)
place_then p q r b c n low less first second =
    let e : (b - c) + (c - n) ≡ b - n = omega arith in
    second ∙ ap (λ (k : ℕ). place_after k (c - n)) first ∙ place_more p (b - c) (c - n) ∙ ap (place_after p) e

-- the same place, where nothing was passed
pub place_same : (p x : ℕ) → p ≡ place_after p (x - x)
place_same p x = let e : 0 ≡ x - x = omega arith in ap (place_after p) e

pub place_passed : (p count : ℕ) → p < 2 ^ 64 → min (p + count) (2 ^ 64 - 1) ≡ place_after p count
place_passed p zero low = omega arith
place_passed p (suc count) low = refl

-- some bytes are passed
pub place_dropped : (p q count : ℕ) (bytes left : List ℕ) → count ≤ length bytes → left ≡ drop count bytes → q ≡ place_after p count → q ≡ place_after p (length bytes - length left)
place_dropped p q count bytes left within is at =
    let len : length left ≡ length bytes - count = ap length is ∙ length-drop count bytes in
    let e : count ≡ length bytes - length left = omega arith in
    at ∙ ap (place_after p) e

pub one_more : (most : ℕ) (bytes : List ℕ) (old middle new : Connection) (frame : ServerFrame) → SoFar most bytes old middle → next_frame most middle.came ≡ Ok (Some (frame, new.came))
    → length new.came ≤ length middle.came → new.place ≡ place_after middle.place (length middle.came - length new.came) → Takes frame middle new → SoFar most bytes old new
one_more most bytes old middle new frame h next fewer place takes = record {
  taken = h.taken ++ frame ∷ [];
  read = read_more most bytes middle.came new.came h.taken frame h.read next;
  takes = takes_as_one h.taken (frame ∷ []) old middle new h.takes (middle, new, same_here middle, takes, same_here new);
  fewer = omega (arith, fewer, h.fewer);
  place = place_then old.place middle.place new.place (length bytes) (length middle.came) (length new.came) h.fewer fewer h.place place;
}

-- reading ends where nothing more is taken
pub reads_all : {T : Type 0} (result : Result T ConnectionError) (most : ℕ) (bytes : List ℕ) (old middle new : Connection) → SoFar most bytes old middle → IsSame middle new → Ends result most middle.came new
    → length new.came ≤ length middle.came → new.place ≡ place_after middle.place (length middle.came - length new.came) → Reads result most bytes old new
reads_all {T} result most bytes old middle new h same ends fewer place = record {
  taken = h.taken ++ [];
  left = middle.came;
  read = subst (λ (fs : List ServerFrame). AreRead most bytes fs middle.came) (sym (append-nil h.taken)) h.read;
  takes = takes_as_one h.taken [] old middle new h.takes same;
  ends = ends;
  place = place_then old.place middle.place new.place (length bytes) (length middle.came) (length new.came) h.fewer fewer h.place place;
}

-- by what a call says that reads one frame
pub after_frame : (b : Bool) (most : ℕ) (bytes : List ℕ) (old middle new : Connection) → b ≡ true → middle.most ≡ most → SoFar most bytes old middle → TakesNext (Ok b) middle new → length new.came ≤ length middle.came
    → new.place ≡ place_after middle.place (length middle.came - length new.came) → SoFar most bytes old new
after_frame b most bytes old middle new more same-most h next fewer place =
    let one : TakesNext (Ok true) middle new = subst (λ (x : Bool). TakesNext (Ok x) middle new) more next in
    one_more most bytes old middle new one.0 h (subst (λ (m : ℕ). next_frame m middle.came ≡ Ok (Some (one.0, new.came))) same-most one.1) fewer place one.2

pub after_all : (b : Bool) (most : ℕ) (bytes : List ℕ) (old middle new : Connection) → b ≡ false → middle.most ≡ most → SoFar most bytes old middle → TakesNext (Ok b) middle new → length new.came ≤ length middle.came
    → new.place ≡ place_after middle.place (length middle.came - length new.came) → Reads {T = Unit {0}} (Ok tt) most bytes old new
after_all b most bytes old middle new more same-most h next fewer place =
    let none : TakesNext (Ok false) middle new = subst (λ (x : Bool). TakesNext (Ok x) middle new) more next in
    reads_all {T = Unit {0}} (Ok tt) most bytes old middle new h none.2 (subst (λ (m : ℕ). next_frame m middle.came ≡ Ok None) same-most none.0, none.1) fewer place

pub after_error : (error : ConnectionError) (most : ℕ) (bytes : List ℕ) (old middle new : Connection) → middle.most ≡ most → SoFar most bytes old middle → TakesNext (Err error) middle new → length new.came ≤ length middle.came
    → new.place ≡ place_after middle.place (length middle.came - length new.came) → Reads {T = Unit {0}} (Err error) most bytes old new
after_error error most bytes old middle new same-most h next fewer place =
    reads_all {T = Unit {0}} (Err error) most bytes old middle new h next.1 (subst (λ (m : ℕ). EndsBy error m middle.came new) same-most next.0) fewer place

-- a connection that means the same reads the same
pub reads_from_same : {T : Type 0} (result : Result T ConnectionError) (most : ℕ) (bytes : List ℕ) (old before new : Connection) → IsSame old before → before.place ≡ old.place → Reads result most bytes before new
    → Reads result most bytes old new
reads_from_same {T} result most bytes old before new same at h = record {
  taken = h.taken;
  left = h.left;
  read = h.read;
  takes = takes_from_same h.taken old before new same h.takes;
  ends = h.ends;
  place = h.place ∙ ap (λ (p : ℕ). place_after p (length bytes - length new.came)) at;
}

-- reading never ends as if nothing had been taken
pub receives_read : {T : Type 0} (result : Result T ConnectionError) (bytes : List ℕ) (old new : Connection) → Reads result old.most (old.came ++ bytes) old new → Receives result bytes old new
receives_read {T} (Ok done) bytes old new h = h
receives_read {T} (Err failed.OutOfMemory) bytes old new h = absurd h.ends
receives_read {T} (Err (failed.Damaged damage place)) bytes old new h = h
receives_read {T} (Err (failed.BadHeaders damage place)) bytes old new h = h
receives_read {T} (Err (failed.BadInfo place)) bytes old new h = h
receives_read {T} (Err (failed.Refused text)) bytes old new h = h
receives_read {T} (Err failed.Silent) bytes old new h = h
receives_read {T} (Err (failed.Unwritable error)) bytes old new h = h
receives_read {T} (Err failed.Unread) bytes old new h = h

-- ---- a damage stays

damage_in : (bytes : List ℕ) (damage : Damage) (r : Reading) → taken_off bytes r ≡ Err damage → r ≡ readings.Damaged damage
damage_in bytes damage readings.More e = absurd cc
damage_in bytes damage (readings.Whole frame n) e = absurd cc
damage_in bytes damage (readings.Damaged other) e = cc

pub stays_damaged : (most : ℕ) (left more : List ℕ) (damage : Damage) → next_frame most left ≡ Err damage → next_frame most (left ++ more) ≡ Err damage
unfolding next_frame
stays_damaged most left more damage e = ap (taken_off (left ++ more)) (damaged_stays most left more damage (damage_in left damage (read most left) e))
