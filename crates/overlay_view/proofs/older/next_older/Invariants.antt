use Rattle.std.proofs.Common.{◌≡◌, ◌-◌, length}
use Rattle.overlay_view.specs.Older.{older_from}
use Rattle.overlay_view.proofs.older.next_older.Given as goal

abbrev pub invariant-parts : goal.invariant-parts
invariant-parts g l = older_from g.T.Runs.run l.parts l.number l.walk ≡ older_from g.T.Runs.run l.fn.parts l.fn.part l.fn.walk

abbrev pub decreases-parts : goal.decreases-parts
decreases-parts g l = length l.parts - l.number
