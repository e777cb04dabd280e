-- The ledger that the blank names.
use Rattle.accounts.proofs.run.Given as goal

abbrev pub ghosts-show : goal.ghosts-show
ghosts-show g a = record { name = a.blank.name; parts = a.blank.parts }
