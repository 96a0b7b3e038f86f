use Rattle.front_rule.proofs.memtables.part.Given as goal

-- the key that is told
abbrev pub ghosts-part_told : goal.ghosts-part_told
ghosts-part_told g a = record { key = a.at.now }
