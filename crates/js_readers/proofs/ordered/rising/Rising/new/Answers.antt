use Rattle.js_readers.proofs.RisingSequences.{rising_from}
use Rattle.js_readers.proofs.ordered.rising.Rising.new.Goals as goal

pub returns-clause-rises : goal.returns-clause-rises
returns-clause-rises g c = rising_from _ _
