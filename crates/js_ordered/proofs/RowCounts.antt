-- How many rows are passed: a row is one more than the rows that follow it.
use Rattle.std.proofs.Common.{◌≡◌, ℕ, zero, suc, ◌+◌, ◌<◌, List, [], ◌∷◌, ◌++◌, refl, ap, ◌∙◌, arith}
use Rattle.js_pull.specs.declared.reader.Row.{Row as PullRow}
use Rattle.js_pull.specs.declared.reader.Row.TheVariants as read
use Rattle.js_ordered_table.specs.Consumer.{Matter, Passed}
use Rattle.js_ordered_table.specs.declared.row.Row.{Row}
use Rattle.js_ordered_table.specs.declared.row.Row.TheVariants as row
use Rattle.js_ordered_table.specs.declared.consumer.ReplayInput.{ReplayInput}
use Rattle.js_ordered_table.specs.declared.replay_state.ReplayState.{ReplayState}
use Rattle.js_ordered_table.specs.declared.run.Output.{Output}
use Rattle.js_ordered_table.specs.Passes.{ran}
use Rattle.js_ordered_table.specs.Fold.{Ran, after, and_then, pass_each, passing, rank, read_rank}
use Rattle.js_ordered_table.specs.Table.{pass}
use Rattle.js_ordered_table.proofs.Ranks.{AreBelow, row_falls}
use Rattle.js_ordered.specs.Drive.{count_each, count_to, row_count}

-- ---- one more depth makes no difference

each_same : (one other : Row → ReplayState → ℕ) (g : ReplayInput) (now : ℕ) (m : Matter) (n : ℕ) → ((row : Row) (w : ReplayState) → rank row < n → one row w ≡ other row w)
    → (rows : List Row) (w : ReplayState) → AreBelow n rows → count_each one g now m rows w ≡ count_each other g now m rows w
each_same one other g now m n same [] w below = refl
each_same one other g now m n same (row ∷ rows) w below =
    let next : ReplayState = (ran g now m row w).state in
    ap (λ (k : ℕ). k + count_each one g now m rows next) (same row w below.0)
    ∙ ap (λ (k : ℕ). other row w + k) (each_same one other g now m n same rows next below.1)

settled : (g : ReplayInput) (now : ℕ) (m : Matter) (depth : ℕ) (row : Row) (w : ReplayState) → rank row < depth → count_to g now m depth row w ≡ count_to g now m (suc depth) row w
settled g now m zero row w below = absurd (omega arith)
settled g now m (suc depth) row w below =
    let passed : Passed = pass g (passing g now w) m row w.consumer in
    ap (λ (k : ℕ). suc k)
    (each_same (count_to g now m depth) (count_to g now m (suc depth)) g now m (rank row)
    (λ next w' lower. settled g now m depth next w' (omega arith))
    passed.next (after w passed) (row_falls g (passing g now w) m row w.consumer.phase w.consumer))

read_low : (one : PullRow) → read_rank one < 10
read_low (read.Ask reason) = omega arith
read_low read.Arm = omega arith
read_low read.Threshold = omega arith
read_low (read.FailInfoRequest failures) = omega arith
read_low read.CheckExpiry = omega arith
read_low (read.Inquire failures) = omega arith
read_low (read.Answered reply failures) = omega arith
read_low read.CheckInfoRequest = omega arith
read_low read.CheckSilence = omega arith
read_low read.CheckArrival = omega arith
read_low (read.Begin change) = omega arith

low : (one : Row) → rank one < 10
low row.Fail = omega arith
low row.Arm = omega arith
low row.Hold = omega arith
low row.Ask = omega arith
low row.Create = omega arith
low row.Try = omega arith
low row.Start = omega arith
low (row.Hear arrival) = omega arith
low row.CheckSilence = omega arith
low (row.Read one) = read_low one
low row.CheckArrival = omega arith
low (row.Succeed info) = omega arith
low (row.Answered reply) = omega arith
low row.Await = omega arith
low row.Event = omega arith

-- ---- one row

-- what follows a row comes to the same at one depth less
next_settled : (g : ReplayInput) (now : ℕ) (m : Matter) (one : Row) (w : ReplayState) → rank one < 10
    → (let here = pass g (passing g now w) m one w.consumer in count_each (count_to g now m 9) g now m here.next (after w here) ≡ count_each (count_to g now m 10) g now m here.next (after w here))
next_settled g now m one w lower =
    let here : Passed = pass g (passing g now w) m one w.consumer in
    each_same (count_to g now m 9) (count_to g now m 10) g now m (rank one) (λ next w' below. settled g now m 9 next w' (omega (arith, below, lower)))
    here.next (after w here) (row_falls g (passing g now w) m one w.consumer.phase w.consumer)

one_more : (a b : ℕ) → a ≡ b → suc a ≡ 1 + b
one_more a b is = omega (arith, is)

alone : (a b c : ℕ) → a ≡ 1 + b → b ≡ c → a + 0 ≡ 1 + c
alone a b c is same = omega (arith, is, same)

-- a row is one more than what follows it
pub counts_from : (g : ReplayInput) (now : ℕ) (m : Matter) (one : Row) (w : ReplayState) (passed : Passed) → pass g (passing g now w) m one w.consumer ≡ passed
    → row_count g now m (one ∷ []) w ≡ 1 + row_count g now m passed.next (after w passed)
unfolding row_count
counts_from g now m one w passed is =
    let here : Passed = pass g (passing g now w) m one w.consumer in
    let rest : Passed → ℕ = λ p. count_each (count_to g now m 10) g now m p.next (after w p) in
    let less : ℕ = count_each (count_to g now m 9) g now m here.next (after w here) in
    let all : count_to g now m 10 one w ≡ 1 + rest here = one_more less (rest here) (next_settled g now m one w (low one)) in
    let same : rest here ≡ rest passed = ap rest is in
    alone (count_to g now m 10 one w) (rest here) (rest passed) all same

-- ---- some rows, and then others

each_append : (count : Row → ReplayState → ℕ) (g : ReplayInput) (now : ℕ) (m : Matter) (rows more : List Row) (w : ReplayState)
    → count_each count g now m (rows ++ more) w ≡ count_each count g now m rows w + count_each count g now m more (pass_each (ran g now m) rows w).state
each_append count g now m [] more w = omega arith
each_append count g now m (one ∷ rows) more w =
    let next : ReplayState = (ran g now m one w).state in
    let rest : count_each count g now m (rows ++ more) next ≡ count_each count g now m rows next + count_each count g now m more (pass_each (ran g now m) rows next).state =
    each_append count g now m rows more next in
    omega (arith, rest)

summed : (some rest mine theirs all both n : ℕ) → some ≡ n + rest → mine ≡ theirs → all ≡ some + mine → both ≡ rest + theirs → all ≡ n + both
summed some rest mine theirs all both n first there before behind = omega (arith, first, there, before, behind)

each_more : (count : Row → ReplayState → ℕ) (g : ReplayInput) (now : ℕ) (m : Matter) (rows rest more : List Row) (w u : ReplayState) (earlier later : List Output) (n : ℕ)
    → and_then earlier (pass_each (ran g now m) rows w) ≡ and_then later (pass_each (ran g now m) rest u)
    → count_each count g now m rows w ≡ n + count_each count g now m rest u → count_each count g now m (rows ++ more) w ≡ n + count_each count g now m (rest ++ more) u
each_more count g now m rows rest more w u earlier later n leads fewer =
    let behind : ReplayState → ℕ = λ v. count_each count g now m more v in
    summed (count_each count g now m rows w) (count_each count g now m rest u) (behind (pass_each (ran g now m) rows w).state) (behind (pass_each (ran g now m) rest u).state)
    (count_each count g now m (rows ++ more) w) (count_each count g now m (rest ++ more) u) n
    fewer (ap (λ (r : Ran). behind r.state) leads) (each_append count g now m rows more w) (each_append count g now m rest more u)

-- with more rows behind
pub counts_more : (g : ReplayInput) (now : ℕ) (m : Matter) (rows rest more : List Row) (w u : ReplayState) (earlier later : List Output) (n : ℕ)
    → and_then earlier (pass_each (ran g now m) rows w) ≡ and_then later (pass_each (ran g now m) rest u)
    → row_count g now m rows w ≡ n + row_count g now m rest u → row_count g now m (rows ++ more) w ≡ n + row_count g now m (rest ++ more) u
unfolding row_count
counts_more g now m rows rest more w u earlier later n leads fewer = each_more (count_to g now m 10) g now m rows rest more w u earlier later n leads fewer
