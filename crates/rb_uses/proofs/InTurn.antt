-- Uses that are added in turn.
use Rattle.std.proofs.lemmas.List.{append-nil, append_assoc, map-append}

-- for walks over parts that are looked through one after another
pub ruleset walks = (append-nil, append_assoc, map-append)
