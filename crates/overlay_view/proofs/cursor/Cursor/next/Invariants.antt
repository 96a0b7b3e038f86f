-- The ledger of the steps that a read takes.
use Rattle.overlay_view.proofs.cursor.Cursor.next.Given as goal

abbrev pub ghosts-copied : goal.ghosts-copied
ghosts-copied g a = record { name = a.blank.name; parts = a.blank.parts }
