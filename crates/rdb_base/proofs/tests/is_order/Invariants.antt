-- The ledger of the steps that a comparison takes.
use Rattle.rdb_base.proofs.tests.is_order.Given as goal

abbrev pub ghosts-order_of : goal.ghosts-order_of
ghosts-order_of a = record { name = a.blank.name; parts = a.blank.parts }
