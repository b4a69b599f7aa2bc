-- The list of an honest server is handed out whole.
use Rattle.std.proofs.Common.{◌≡◌, ℕ, zero, suc, ◌+◌, ◌<◌, ◌≤◌, min, Bool, true, false, List, [], ◌∷◌, ◌++◌, length, take, drop, reverse, refl, sym, ◌∙◌, ap, subst, arith, append_assoc, length-append, rules, Ok, Err, None}
use Rattle.std.specs.Prelude.{nat_le}
use Rattle.std.proofs.lemmas.List.{append-nil}
use Rattle.std.proofs.Math.Seq.{drop-append_seam}
use Rattle.std.proofs.lemmas.Grind.{common_steps}
use Rattle.std.proofs.Common.{inl, inr, ◌⊎◌}
use Rattle.std.proofs.lemmas.Bool.{false≢true}
use Rattle.js_base.specs.declared.turn.Next.TheVariants as next
use Rattle.js_base.specs.declared.turn.Turn.TheVariants.{Pending, Ready, OutOfMemory}
use Rattle.js_link.specs.LinkView.{LinkView}
use Rattle.js_json_members.specs.Member.{Reads}
use Rattle.js_json_stream_bodies.specs.declared.stream.page.Page.{Page}
use Rattle.js_call.specs.declared.scope.ApiScope.{ApiScope}
use Rattle.js_call_streams.specs.declared.progress.Progress.{Progress}
use Rattle.js_call_streams.specs.declared.listing.Listing.{Listing}
use Rattle.js_call_streams.specs.Chain.{Chain}
use Rattle.js_call_streams.specs.Page.{Lists, items_of}
use Rattle.js_call_streams.specs.Listing.{Given, Heard, Left, Over, Unmade, Asked, Hears, HandsOut, Turned, loaded, fresh, fresh_progress}
use Rattle.js_call_streams.specs.WholeList.{IsHonest, HeardHonest, Poll, World, Passes, IsNotEnd, item_of, items, NoEnd, joined, from_ends, IsWhole, HandsOutWhole}
use Rattle.js_call_streams.proofs.FirstItem.{reverse-last}

min_is : (n m : ℕ) → n ≤ m → min n m ≡ n
min_is n m h = omega (arith, h)

lt_or_le : (n m : ℕ) → (n < m) ⊎ (m ≤ n)
lt_or_le n zero = inr (omega arith)
lt_or_le zero (suc m) = inl (omega arith)
lt_or_le (suc n) (suc m) = elim (lt_or_le n m) as (λ _. (suc n < suc m) ⊎ (suc m ≤ suc n)) [ inl h ↦ inl (omega (arith, h)) | inr h ↦ inr (omega (arith, h)) ]

le_of : (n m : ℕ) → nat_le n m ≡ true → n ≤ m
le_of n m e = search rules

-- the pages that have come, and what of them was handed out
pub record IsAt {A : Type 0} (whole : List A) (given : List A) (l : Progress A) : Type 0 where
  pub pages : List (List A)
  pub rest : List A
  pub is_list : whole ≡ joined pages ++ rest
  pub come_to : l.offset ≡ length (joined pages)
  pub split : given ++ reverse l.rest ≡ from_ends pages
  pub at_last : l.is_last ≡ true → rest ≡ []

joined-more : {A : Type 0} → (pages : List (List A)) (page : List A) → joined (pages ++ page ∷ []) ≡ joined pages ++ page
joined-more [] page = search (rules, common_steps)
joined-more (p ∷ ps) page = ap (λ xs. p ++ xs) (joined-more ps page) ∙ sym (append_assoc p (joined ps) page)

from_ends-more : {A : Type 0} → (pages : List (List A)) (page : List A) → from_ends (pages ++ page ∷ []) ≡ from_ends pages ++ reverse page
from_ends-more [] page = search (rules, common_steps)
from_ends-more (p ∷ ps) page = ap (λ xs. reverse p ++ xs) (from_ends-more ps page) ∙ sym (append_assoc (reverse p) (from_ends ps) (reverse page))

none_of : {A : Type 0} → (xs : List A) → length xs ≡ 0 → xs ≡ []
none_of [] e = refl
none_of (x ∷ xs) e = absurd (omega (arith, e))

-- handing out an item
handed : {A : Type 0} → (whole given : List A) (l m : Progress A) (item : A) → IsAt whole given l → m ≡ record l { rest = m.rest } → l.rest ≡ m.rest ++ item ∷ [] → IsAt whole (given ++ item ∷ []) m
handed {A = A} whole given l m item at same last =
    let turned : reverse l.rest ≡ item ∷ reverse m.rest = ap reverse last ∙ reverse-last m.rest item in
    record {
      pages = at.pages;
      rest = at.rest;
      is_list = at.is_list;
      come_to = ap (λ (z : Progress A). z.offset) same ∙ at.come_to;
      split = append_assoc given (item ∷ []) (reverse m.rest) ∙ ap (λ xs. given ++ xs) (sym turned) ∙ at.split;
      at_last = λ e. at.at_last (sym (ap (λ (z : Progress A). z.is_last) same) ∙ e);
    }

-- what is left begins with an honest page
part_of : {A : Type 0} → (whole : List A) (given : List A) (l : Progress A) (page : List A) (after : List A) → (at : IsAt whole given l) → drop l.offset whole ≡ page ++ after → at.rest ≡ page ++ after
part_of whole given l page after at e =
    sym (drop-append_seam (joined at.pages) at.rest) ∙ ap (λ n. drop n (joined at.pages ++ at.rest)) (sym at.come_to) ∙ ap (λ xs. drop l.offset xs) (sym at.is_list) ∙ e

-- how long the list is
long : {A : Type 0} → (whole : List A) (given : List A) (l : Progress A) → (at : IsAt whole given l) → length whole ≡ l.offset + length at.rest
long whole given l at = ap length at.is_list ∙ length-append (joined at.pages) at.rest ∙ ap (λ n. n + length at.rest) (sym at.come_to)

-- a page that has come, below the end of the list
come : {A : Type 0} → (whole given : List A) (l : Progress A) (page : Page A) → length whole < 18446744073709551616 → IsAt whole given l → l.rest ≡ [] → IsHonest whole l.offset page → l.offset < length whole → IsAt whole given (loaded page l)
come {A = A} whole given l page short at empty honest below =
    let (after, part) = honest.part below in
    let left = part_of whole given l (items_of page.streams) after at part in
    let sizes : length at.rest ≡ length (items_of page.streams) + length after = ap length left ∙ length-append (items_of page.streams) after in
    let all = long whole given l at in
    let offset : min (l.offset + length (items_of page.streams)) 18446744073709551615 ≡ l.offset + length (items_of page.streams) = min_is _ _ (omega (arith, short, all, sizes)) in
    record {
      pages = at.pages ++ (items_of page.streams) ∷ [];
      rest = after;
      is_list = at.is_list ∙ ap (λ xs. joined at.pages ++ xs) left ∙ sym (append_assoc (joined at.pages) (items_of page.streams) after) ∙ ap (λ xs. xs ++ after) (sym (joined-more at.pages (items_of page.streams)));
      come_to = offset ∙ ap (λ n. n + length (items_of page.streams)) at.come_to ∙ sym (length-append (joined at.pages) (items_of page.streams)) ∙ ap length (sym (joined-more at.pages (items_of page.streams)));
      split = sym (ap (λ xs. xs ++ reverse (items_of page.streams)) (sym at.split ∙ ap (λ xs. given ++ reverse xs) empty ∙ append-nil given)) ∙ sym (from_ends-more at.pages (items_of page.streams));
      at_last = λ e. none_of after (omega (arith, le_of page.total (min (l.offset + length (items_of page.streams)) 18446744073709551615) e, offset, honest.total below, all, sizes));
    }

-- a poll that hands out nothing and changes nothing that counts
quiet : {A : Type 0} → (whole given : List A) (l m : Progress A) (g : Given A) → IsAt whole given l → m ≡ l → item_of g ≡ [] → IsAt whole (given ++ item_of g) m
quiet {A = A} whole given l m g at same none =
    let P : List A × Progress A → Type 0 = λ z. IsAt whole z.0 z.1 in
    subst P (λ i. (sym (ap (λ xs. given ++ xs) none ∙ append-nil given) i, sym same i)) at

no_end : {A : Type 0} → (g : Given A) → g ≡ next.End → IsNotEnd g → ⊥
no_end g e h = subst IsNotEnd e h

not_empty : {A : Type 0} → (xs : List A) (x : A) → xs ++ x ∷ [] ≡ [] → ⊥
not_empty [] x e = cc
not_empty (y ∷ ys) x e = cc

-- a page that has come and gives an item
page_gives : {A : Type 0} → (whole given : List A) (l m : Progress A) (page : Page A) (item : A) → length whole < 18446744073709551616 → IsAt whole given l → l.rest ≡ [] → IsHonest whole l.offset page → m ≡ record (loaded page l) { rest = m.rest } → items_of page.streams ≡ m.rest ++ item ∷ [] → IsAt whole (given ++ item ∷ []) m
page_gives whole given l m page item short at empty honest same last =
    elim (lt_or_le l.offset (length whole)) as (λ _. IsAt whole (given ++ item ∷ []) m) [
      | inl below ↦ handed whole given (loaded page l) m item (come whole given l page short at empty honest below) same last
      | inr past ↦ absurd (not_empty m.rest item (sym last ∙ honest.past past))
    ]

-- one poll of an honest list
one_poll : {A : Type 0} → (reads : Reads A) (lists : Lists) (whole given : List A) (s t : Listing A) (old new : LinkView) (now : ℕ) (heard : Heard A) (g : Given A) → length whole < 18446744073709551616 → IsAt whole given s.progress → Hears reads lists heard now g s t old new → HeardHonest whole s.progress.offset heard → IsNotEnd g → IsAt whole (given ++ item_of g) t.progress
one_poll reads lists whole given s t old new now Left (next.Item (Ok item)) short at h honest on = handed whole given s.progress t.progress item at h.1.0 h.1.1
one_poll reads lists whole given s t old new now Left (next.Item (Err error)) short at h honest on = absurd h.1
one_poll reads lists whole given s t old new now Left next.End short at h honest on = absurd on
one_poll reads lists whole given s t old new now Left next.Pending short at h honest on = absurd h.1
one_poll reads lists whole given s t old new now Left next.OutOfMemory short at h honest on = absurd h.1
one_poll reads lists whole given s t old new now Over g short at h honest on = absurd (no_end g h.2 on)
one_poll {A = A} reads lists whole given s t old new now Unmade g short at h honest on = quiet whole given s.progress t.progress g at (ap (λ (z : Listing A). z.progress) h.3) (ap item_of h.2)
one_poll {A = A} reads lists whole given s t old new now (Asked (Pending call)) g short at h honest on = quiet whole given s.progress t.progress g at (ap (λ (z : Listing A). z.progress) h.2.turned.1) (ap item_of h.2.turned.0)
one_poll {A = A} reads lists whole given s t old new now (Asked (OutOfMemory call)) g short at h honest on = quiet whole given s.progress t.progress g at (ap (λ (z : Listing A). z.progress) h.2.turned.1) (ap item_of h.2.turned.0)
one_poll {A = A} reads lists whole given s t old new now (Asked (Ready (Err error))) g short at h honest on = quiet whole given s.progress t.progress g at (ap (λ (z : Listing A). z.progress) h.2.turned.1) (ap item_of h.2.turned.0)
one_poll reads lists whole given s t old new now (Asked (Ready (Ok page))) (next.Item (Ok item)) short at h honest on = page_gives whole given s.progress t.progress page item short at h.0 honest h.2.turned.0.0 h.2.turned.0.1
one_poll reads lists whole given s t old new now (Asked (Ready (Ok page))) (next.Item (Err error)) short at h honest on = absurd h.2.turned.0
one_poll reads lists whole given s t old new now (Asked (Ready (Ok page))) next.End short at h honest on = absurd on
one_poll reads lists whole given s t old new now (Asked (Ready (Ok page))) next.Pending short at h honest on = absurd h.2.turned.0
one_poll reads lists whole given s t old new now (Asked (Ready (Ok page))) next.OutOfMemory short at h honest on = absurd h.2.turned.0

-- any polls before the end
all_polls : {A : Type 0} → (reads : Reads A) (lists : Lists) (whole given : List A) (w v : World A) (polls : List (Poll A)) → length whole < 18446744073709551616 → IsAt whole given w.listing.progress → Chain (Passes reads lists whole) w polls v → NoEnd polls → IsAt whole (given ++ items polls) v.listing.progress
all_polls {A = A} reads lists whole given w v [] short at e on =
    let P : List A × World A → Type 0 = λ z. IsAt whole z.0 z.1.listing.progress in
    subst P (λ i. (sym (append-nil given) i, e i)) at
all_polls reads lists whole given w v (p ∷ ps) short at (m, first, rest) on =
    let next_at = one_poll reads lists whole given w.listing m.listing w.link m.link p.now p.heard p.given short at first.hears first.honest on.0 in
    let last_at = all_polls reads lists whole (given ++ item_of p.given) m v ps short next_at rest on.1 in
    subst (λ xs. IsAt whole xs v.listing.progress) (append_assoc given (item_of p.given) (items ps)) last_at

-- nothing is left
done : {A : Type 0} → (whole given : List A) (l : Progress A) → (at : IsAt whole given l) → at.rest ≡ [] → l.rest ≡ [] → IsWhole whole given
done whole given l at none empty =
    (at.pages, sym (at.is_list ∙ ap (λ xs. joined at.pages ++ xs) none ∙ append-nil (joined at.pages)), sym (ap (λ xs. given ++ reverse xs) empty ∙ append-nil given) ∙ at.split)

-- the poll that answers the end
last_poll : {A : Type 0} → (reads : Reads A) (lists : Lists) (whole given : List A) (s t : Listing A) (old new : LinkView) (now : ℕ) (heard : Heard A) → IsAt whole given s.progress → Hears reads lists heard now next.End s t old new → HeardHonest whole s.progress.offset heard → IsWhole whole given
last_poll reads lists whole given s t old new now Left at h honest = absurd (h.0 h.1.1)
last_poll reads lists whole given s t old new now Over at h honest = done whole given s.progress at (at.at_last h.1) h.0
last_poll reads lists whole given s t old new now Unmade at h honest = absurd (no_end next.OutOfMemory (sym h.2) tt)
last_poll reads lists whole given s t old new now (Asked (Pending call)) at h honest = absurd (no_end next.Pending (sym h.2.turned.0) tt)
last_poll reads lists whole given s t old new now (Asked (OutOfMemory call)) at h honest = absurd (no_end next.OutOfMemory (sym h.2.turned.0) tt)
last_poll reads lists whole given s t old new now (Asked (Ready (Err error))) at h honest = absurd (no_end (next.Item (Err error)) (sym h.2.turned.0) tt)
last_poll reads lists whole given s t old new now (Asked (Ready (Ok page))) at h honest =
    elim (lt_or_le s.progress.offset (length whole)) as (λ _. IsWhole whole given) [
      | inl below ↦ absurd (honest.filled below h.2.turned.0.1)
      | inr past ↦ done whole given s.progress at (none_of at.rest (omega (arith, long whole given s.progress at, past))) h.0
    ]

-- the list that an honest server gives page by page is handed out whole
pub listed : {A : Type 0} → (reads : Reads A) (lists : Lists) → HandsOutWhole reads lists
listed {A = A} reads lists whole scope old v u polls now heard short passes on last =
    let before : Listing A = fresh scope in
    let start : IsAt whole [] before.progress = record {
      pages = [];
      rest = whole;
      is_list = refl;
      come_to = refl;
      split = refl;
      at_last = λ e. absurd (false≢true e);
    } in
    last_poll reads lists whole (items polls) v.listing u.listing v.link u.link now heard (all_polls reads lists whole [] (record { listing = fresh scope; link = old }) v polls short start passes on) last.hears last.honest
