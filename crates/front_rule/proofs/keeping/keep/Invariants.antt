use Rattle.front_rule.proofs.keeping.keep.Given as goal

-- the numbers that are told
abbrev pub ghosts-keep_told : goal.ghosts-keep_told
ghosts-keep_told g a = record { numbers = record { live = a.live; next = a.next; failed = a.keeper.now.failed } }
