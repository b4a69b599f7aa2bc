-- A client's end of JetStream, and what becomes of its permits.
use Rattle.std.specs.Prelude.{ℕ, ◌≡◌, ◌+◌, ◌≤◌, true, Option, Some, None, List, [], All}
use Rattle.std.specs.Arc.{arc_value}
use Rattle.std.specs.declared.sync.Arc.{Arc}
use Rattle.std.specs.VecDeque.{deque_len, deque_capacity}
use Rattle.std.specs.declared.collections.VecDeque.{VecDeque}
use Rattle.std.specs.declared.alloc.Global.{Global}
use Rattle.js_call.specs.declared.scope.ApiScope.{ApiScope}
use Rattle.js_window.specs.Caller.{Caller, held, Makes, Splits}
use Rattle.js_window.specs.declared.history.Call.TheVariants.{Got, Full, Give}
use Rattle.js_window.specs.declared.window.Window.{Window}
use Rattle.js_context.specs.declared.context.Detached.{Detached}
use Rattle.js_context.specs.declared.context.Settings.{Settings}

-- what a context is to those that use it
pub record ContextView : Type 0 where
  pub scope : ApiScope  -- where its requests go
  pub pass : Caller
  pub awaited : ℕ  -- how many acks are awaited
  pub detached : List Detached  -- the acks that nobody awaits
  pub settings : Settings

-- The pass is one of its window. Each permit that it holds is awaited or detached, and each that is awaited has room to be detached.
-- Each detached ack bears a permit that its pass took, of its window and of no other.
pub record IsContext (window : Arc Window Global) (pass : Caller) (awaited : ℕ) (detached : VecDeque Detached Global) : Type 0 where
  pub own : pass.window ≡ arc_value window
  pub counted : held pass ≡ awaited + deque_len detached
  pub room : awaited + deque_len detached ≤ deque_capacity detached
  pub bear : All (λ d. d.permit ≡ pass.number) detached.items
  pub given : All (λ d. d.window.value ≡ pass.window) detached.items

-- a context that holds no permit
abbrev pub fresh : ApiScope → Caller → Settings → ContextView
fresh scope pass settings = record { scope = scope; pass = pass; awaited = 0; detached = []; settings = settings }

-- a context of a window of its own with so many permits, all free
pub record IsNew (scope : ApiScope) (capacity : ℕ) (settings : Settings) (c : ContextView) : Type 0 where
  pub permits : c.pass.window.capacity ≡ capacity
  pub none_held : c ≡ fresh scope c.pass settings
  pub none_seen : c.pass.seen ≡ []
  pub none_made : c.pass.mine ≡ []

-- thirty seconds for an ack that nobody awaits, and a publish waits for its permit
abbrev pub usual_settings : Settings
usual_settings = record { ack_timeout = 30_000_000_000; backpressure = true; concurrency_limit = None }

-- the scope with a prefix, and no timeout
abbrev pub usual_scope : List ℕ → ApiScope
usual_scope prefix = record { prefix = prefix; timeout = None }

-- a context with a prefix, and all else as a builder has it at first
abbrev pub IsUsual : List ℕ → ContextView → Type 0
IsUsual prefix c = IsNew (usual_scope prefix) 5_000 usual_settings c

-- another context over the same permits, which holds none itself
pub record SplitsOff (old other : ContextView) : Type 0 where
  pub splits : Splits old.pass other.pass
  pub none_held : other ≡ fresh old.scope other.pass old.settings

-- the timeout that was set, and else five seconds
abbrev pub timeout_of : Option ℕ → ℕ
timeout_of None = 5_000_000_000
timeout_of (Some timeout) = timeout

-- where a context's requests go
abbrev pub scope_in : ContextView → ApiScope
scope_in context = context.scope

-- how long a context waits for an answer
abbrev pub timeout_in : ContextView → ℕ
timeout_in context = timeout_of context.scope.timeout

-- what a take gives: a permit that will be awaited, or none
abbrev pub Takes : Option ℕ → ContextView → ContextView → Type 0
Takes (Some permit) old new = Makes Got old.pass new.pass × (permit ≡ new.pass.number) × (new ≡ record old { pass = new.pass; awaited = old.awaited + 1 })
Takes None old new = Makes Full old.pass new.pass × (new ≡ record old { pass = new.pass })

-- the permit of an ack that was awaited was given back
pub record GivesBack (old new : ContextView) : Type 0 where
  pub makes : Makes Give old.pass new.pass
  pub one_less : new.awaited + 1 ≡ old.awaited
  pub same : new ≡ record old { pass = new.pass; awaited = new.awaited }
