use Rattle.js_window.proofs.Totals.{one_history_balances}
use Rattle.js_window.proofs.rule.permits_balance.Goals as goal

pub returns-clause-by_history : goal.returns-clause-by_history
returns-clause-by_history c = one_history_balances
