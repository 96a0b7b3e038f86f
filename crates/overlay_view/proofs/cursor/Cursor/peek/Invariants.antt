-- The ledger of the steps that a read takes.
use Rattle.overlay_view.proofs.cursor.Cursor.peek.Given as goal

abbrev pub ghosts-lent : goal.ghosts-lent
ghosts-lent g a = record { name = a.blank.name; parts = a.blank.parts }
