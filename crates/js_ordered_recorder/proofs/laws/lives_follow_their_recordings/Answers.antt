use Rattle.js_ordered_recorder.proofs.Life.{new_lives}
use Rattle.js_ordered_recorder.proofs.laws.lives_follow_their_recordings.Goals as goal

pub returns : goal.returns
returns g c = new_lives g.R.Recording.writes
