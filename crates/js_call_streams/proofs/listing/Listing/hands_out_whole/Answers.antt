use Rattle.js_call_streams.proofs.WholeList.{listed}
use Rattle.js_call_streams.proofs.listing.Listing.hands_out_whole.Goals as goal

pub returns : goal.returns
returns g c = listed g.T.Member.reads g.T.ListItem.list
