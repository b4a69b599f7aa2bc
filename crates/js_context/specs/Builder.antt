-- How a context is built.
use Rattle.std.specs.Prelude.{ℕ, ◌≡◌, ◌==◌, nat_lt, Option, Some, None, List, codes, if◌then◌else◌, Result, Ok, Err}
use Rattle.js_call.specs.declared.scope.ApiScope.{ApiScope}
use Rattle.js_context.specs.declared.build_error.BuildError.{BuildError}
use Rattle.js_context.specs.declared.build_error.BuildError.TheVariants.{ZeroCapacity, CapacityTooLarge, OutOfMemory}
use Rattle.js_context.specs.declared.builder.ContextBuilder.{ContextBuilder}
use Rattle.js_context.specs.declared.context.Settings.{Settings}
use Rattle.js_context.specs.Context.{ContextView, IsNew}

-- the scope of what is to be built
abbrev pub scope_of : {P : Type 0} → ContextBuilder P → ApiScope
scope_of builder = builder.scope

-- how many permits it is to have
abbrev pub capacity_of : {P : Type 0} → ContextBuilder P → ℕ
capacity_of builder = builder.capacity

-- how it is to publish
abbrev pub settings_of : {P : Type 0} → ContextBuilder P → Settings
settings_of builder = builder.settings

-- what is to be built
pub record IsBuilder {P : Type 0} (builder : ContextBuilder P) (scope : ApiScope) (capacity : ℕ) (settings : Settings) : Type 0 where
  pub by_scope : scope_of builder ≡ scope
  pub permits : capacity_of builder ≡ capacity
  pub how : settings_of builder ≡ settings

-- what a capacity is refused with
abbrev pub refusal_of : ℕ → Option BuildError
refusal_of capacity =
    if capacity == 0 then Some ZeroCapacity
    else (if nat_lt 4_294_967_295 capacity then Some CapacityTooLarge else None)

-- what is built, unless the capacity is refused or memory ran out
abbrev pub Builds : Option BuildError → Result ContextView BuildError → ApiScope → ℕ → Settings → Type 0
Builds (Some refusal) result scope capacity settings = result ≡ Err refusal
Builds None (Ok context) scope capacity settings = IsNew scope capacity settings context
Builds None (Err error) scope capacity settings = error ≡ OutOfMemory

-- how a refusal is printed
abbrev pub build_text : BuildError → List ℕ
build_text ZeroCapacity = codes "capacity is zero"
build_text CapacityTooLarge = codes "capacity is too large"
build_text OutOfMemory = codes "out of memory"
