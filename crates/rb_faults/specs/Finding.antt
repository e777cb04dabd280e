-- The faults that are met as sites are visited in order.
use Rattle.std.specs.Prelude.{List, [], ◌∷◌, ◌++◌}
use Rattle.rb_base.specs.declared.fault.SourceFault.{SourceFault}
use Rattle.rb_scope.specs.Sites.{Site}
use Rattle.rb_scope.specs.Rules.{broken_at}

-- the faults so far, and those of one site more
unfoldable pub visit : List SourceFault → Site → List SourceFault
visit found site = found ++ broken_at site

-- the faults so far, and those of sites in turn
abbrev pub visited : List SourceFault → List Site → List SourceFault
visited found [] = found
visited found (site ∷ sites) = visited (visit found site) sites
