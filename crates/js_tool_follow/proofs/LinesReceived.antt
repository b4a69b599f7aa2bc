-- Lines of a source as its bytes come.
use Rattle.std.proofs.Common.{◌≡◌, ℕ, zero, suc, ◌+◌, ◌-◌, ◌⊎◌, inl, inr, ◌<◌, ◌≤◌, ◌==◌, nat_lt, Bool, true, false, List, [], ◌∷◌, ◌++◌, length, take, drop, get_or, if◌then◌else◌, slice_index, Option, Some, None, refl, sym, ap, subst, ◌∙◌, arith, append-nil, append_assoc, add-one, add-zero, length-append}
use Rattle.std.proofs.lemmas.Bool.{false_from_ne_true}
use Rattle.std.proofs.lemmas.Bool.Decides.{nat_tests}
use Rattle.std.specs.Io.KnownBytes.{Keeps, Consumes, IsAtEnd, prepend_known}
use Rattle.js_tool_io.specs.Lines.{lines_of}
use Rattle.std.proofs.lemmas.List.{get_or-drop, get_or_append_left, length-drop}
use Rattle.js_tool_io.proofs.Cuts.{cut_none}
use Rattle.js_tool_follow.specs.declared.incoming_lines.Incoming.{Incoming}
use Rattle.js_tool_follow.specs.declared.incoming_lines.Incoming.TheVariants as incoming
use Rattle.js_tool_follow.specs.IncomingLines.{HasNoFeed, IsFirstFeed, lines_left, IsNext}

-- bytes that are read move to those that are held
pub keeps_more : (first held more bytes : List ℕ) (opened old new : Option (List ℕ)) → Keeps (prepend_known first opened) (prepend_known held old) → more ≡ held ++ bytes → Consumes old new bytes
    → Keeps (prepend_known first opened) (prepend_known more new)
keeps_more first held more bytes None old new kept is consumes = tt
keeps_more first held more bytes (Some all) None new kept is consumes = absurd kept
keeps_more first held more bytes (Some all) (Some before) None kept is consumes = absurd consumes
keeps_more first held more bytes (Some all) (Some before) (Some after) kept is consumes =
    ap (λ (front : List ℕ). front ++ after) is ∙ append_assoc held bytes after ∙ ap (λ (rest : List ℕ). held ++ rest) (sym consumes) ∙ kept

-- the first line feed cuts the first line off, whatever follows
cut_before : (bytes more : List ℕ) (i : ℕ) → i < length bytes → (get_or bytes i 0 == 10) ≡ true → ((k : ℕ) → k < i → (get_or bytes k 0 == 10) ≡ true → ⊥)
    → lines_of (bytes ++ more) ≡ take i bytes ∷ lines_of (drop (i + 1) bytes ++ more)
cut_before [] more i lt here below = absurd (omega arith)
cut_before (b ∷ bytes) more zero lt here below = rw here refl
cut_before (b ∷ bytes) more (suc i) lt here below =
    let other = false_from_ne_true (b == 10) (below 0 (omega arith)) in
    rw (other, cut_before bytes more i (omega arith) here (λ k h. below (suc k) (omega arith)), add-one, add-one) refl

-- so the next line is read
pub next_cut : (first held line left : List ℕ) (opened known : Option (List ℕ)) (i : ℕ) → Keeps (prepend_known first opened) (prepend_known held known)
    → IsFirstFeed held i → line ≡ take i held → left ≡ drop (i + 1) held
    → IsNext incoming.Line (lines_left first opened) line (lines_left left known)
next_cut first held line left None known i kept found cut rest = tt
next_cut first held line left (Some all) None i kept found cut rest = absurd kept
next_cut first held line left (Some all) (Some more) i kept found cut rest =
    ap lines_of (sym kept) ∙ cut_before held more i found.within found.here found.before
    ∙ ap (λ (l : List ℕ). l ∷ lines_of (drop (i + 1) held ++ more)) (sym cut)
    ∙ ap (λ (r : List ℕ). line ∷ lines_of (r ++ more)) (sym rest)

some_bytes : (bytes : List ℕ) → nat_lt 0 (length bytes) ≡ true → 0 < length bytes
some_bytes bytes is = grind (arith, nat_tests)

no_bytes : (bytes : List ℕ) → nat_lt 0 (length bytes) ≡ false → bytes ≡ []
no_bytes [] is = refl
no_bytes (b ∷ bytes) is = absurd (let some : 0 < length (b ∷ bytes) = omega arith in grind (arith, nat_tests))

last_or_none : (held line : List ℕ) (opened known left : Option (List ℕ)) (first after : List ℕ) (some : Bool) → Keeps (prepend_known first opened) (prepend_known held known) → IsAtEnd known
    → HasNoFeed held (length held) → line ≡ held → nat_lt 0 (length held) ≡ some
    → IsNext (if some then incoming.Last else incoming.End) (lines_left first opened) line (lines_left after left)
last_or_none held line None known left first after true kept ends below cut is = tt
last_or_none held line None known left first after false kept ends below cut is = tt
last_or_none held line (Some all) None left first after some kept ends below cut is = absurd kept
last_or_none held line (Some all) (Some known) left first after true kept ends below cut is =
    ap lines_of (sym kept) ∙ ap (λ (end : List ℕ). lines_of (held ++ end)) ends ∙ ap lines_of (append-nil held)
    ∙ cut_none held (some_bytes held is) below
    ∙ ap (λ (l : List ℕ). l ∷ []) (sym cut)
last_or_none held line (Some all) (Some known) left first after false kept ends below cut is =
    ap lines_of (sym kept ∙ ap (λ (end : List ℕ). held ++ end) ends ∙ append-nil held ∙ no_bytes held is)

-- at the end what is held is the last line, or none is left
pub next_last : (first held line after : List ℕ) (opened known left : Option (List ℕ)) (next : Incoming) → Keeps (prepend_known first opened) (prepend_known held known) → IsAtEnd known
    → HasNoFeed held (length held) → line ≡ held → next ≡ (if nat_lt 0 (length held) then incoming.Last else incoming.End)
    → IsNext next (lines_left first opened) line (lines_left after left)
next_last first held line after opened known left next kept ends below cut is =
    subst (λ (n : Incoming). IsNext n (lines_left first opened) line (lines_left after left)) (sym is)
    (last_or_none held line opened known left first after (nat_lt 0 (length held)) kept ends below cut refl)

-- ---- searching

-- none of the bytes before a place, and none of those behind it
pub none_either : (bytes : List ℕ) (n m all : ℕ) → HasNoFeed bytes n → HasNoFeed (drop n bytes) m → all ≡ n + m → HasNoFeed bytes all
none_either bytes n m all before behind is k lt here = by_order (two k n)
  where
    two : (a b : ℕ) → (a < b) ⊎ (b ≤ a)
    two a b = grind arith

    by_order : (k < n) ⊎ (n ≤ k) → ⊥
    by_order (inl below) = before k below here
    by_order (inr above) =
        let at : n + (k - n) ≡ k = omega arith in
        let there : slice_index (drop n bytes) (k - n) ≡ slice_index bytes k = get_or-drop n bytes (k - n) 0 ∙ ap (λ (i : ℕ). slice_index bytes i) at in
        behind (k - n) (omega arith) (ap (λ (b : ℕ). b == 10) there ∙ here)

-- so the first one behind it is the first
pub first_behind : (bytes hay : List ℕ) (n i : ℕ) → hay ≡ drop n bytes → HasNoFeed bytes n → i < length hay → (slice_index hay i == 10) ≡ true → HasNoFeed hay i → IsFirstFeed bytes (n + i)
first_behind bytes hay n i is before lt here none = record {
  within = let long : length hay ≡ length bytes - n = ap length is ∙ length-drop n bytes in omega (arith, long, lt);
  here = ap (λ (b : ℕ). b == 10) (sym (ap (λ (l : List ℕ). slice_index l i) is ∙ get_or-drop n bytes i 0)) ∙ here;
  before = none_either bytes n i (n + i) before (subst (λ (l : List ℕ). HasNoFeed l i) is none) refl;
}

pub none_behind : (bytes hay : List ℕ) (n : ℕ) → hay ≡ drop n bytes → HasNoFeed bytes n → n ≤ length bytes → HasNoFeed hay (length hay) → HasNoFeed bytes (length bytes)
none_behind bytes hay n is before within none =
    none_either bytes n (length hay) (length bytes) before (subst (λ (l : List ℕ). HasNoFeed l (length hay)) is none)
    (let long : length hay ≡ length bytes - n = ap length is ∙ length-drop n bytes in omega (arith, long, within))

-- bytes that follow change nothing before them
pub none_more : (bytes more new : List ℕ) → HasNoFeed bytes (length bytes) → new ≡ bytes ++ more → HasNoFeed new (length bytes)
none_more bytes more new none is k lt here =
    none k lt (ap (λ (b : ℕ). b == 10) (sym (ap (λ (l : List ℕ). slice_index l k) is ∙ get_or_append_left bytes more 0 k lt)) ∙ here)

-- all bytes were searched, where none came
pub none_came : (bytes more new : List ℕ) → HasNoFeed bytes (length bytes) → new ≡ bytes ++ more → length more ≡ 0 → HasNoFeed new (length new)
none_came bytes more new none is empty =
    let same : length bytes ≡ length new = sym (ap length is ∙ length-append bytes more ∙ ap (λ (n : ℕ). length bytes + n) empty ∙ add-zero (length bytes)) in
    subst (λ (n : ℕ). HasNoFeed new n) same (none_more bytes more new none is)

-- the same of bytes that are these
pub searched_all : (held bytes more new : List ℕ) → HasNoFeed held (length held) → bytes ≡ held → new ≡ held ++ more → HasNoFeed new (length bytes)
searched_all held bytes more new none same is = subst (λ (b : List ℕ). HasNoFeed new (length b)) (sym same) (none_more held more new none is)

pub held_more : (held bytes more new : List ℕ) → bytes ≡ held → new ≡ held ++ more → length bytes ≤ length new
held_more held bytes more new same is = let long : length new ≡ length held + length more = ap length is ∙ length-append held more in let here : length bytes ≡ length held = ap length same in omega (arith, long, here)
