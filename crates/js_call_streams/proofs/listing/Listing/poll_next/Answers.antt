use Rattle.std.proofs.Common.{◌≡◌, [], true, false, rules}
use Rattle.js_call_streams.proofs.PagePoll.{asks}
use Rattle.js_call_streams.proofs.Sleep.{asked_sleeps}
use Rattle.js_call_streams.proofs.listing.Listing.poll_next.Goals as goal

pub returns-clause-polls : goal.returns-clause-polls
returns-clause-polls g c = asks _ _ _ _ _ _ _ _ _ _ _ (c.is_empty.ensures.0 (search rules)) (search rules) c.in-Ok.ensures.ok c.poll-turn.ensures.polled c.turn.ensures

pub returns-clause-sleeps : goal.returns-clause-sleeps
returns-clause-sleeps g c =
    asked_sleeps g.T.Member.reads g.T.ListItem.list _ _ _ _ _ _ _ _ _ (c.is_empty.ensures.0 (search rules)) (search rules) c.in-Ok.ensures.ok c.poll-turn.ensures.sleeps c.turn.ensures
