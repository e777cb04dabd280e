-- Where two entries meet: what both say, if they can be at one address.
use Rattle.std.specs.Prelude.{ℕ, ◌&&◌, nat_eq, Bool, true, false, cond, List, [], ◌∷◌, Option, Some, None, option_map}
use Rattle.rb_code.specs.SoundCode.Sound.{Entry, Mode, Fresh, MayPut, MayTake, Begun, Free, Changed, Within, OpenBlock, Loop}

-- operands that differ become plain
abbrev pub met_operand : Option ℕ → Option ℕ → Option ℕ
met_operand (Some m) (Some n) = cond (nat_eq m n) (Some m) None
met_operand _ _ = None

abbrev pub met_operands : List (Option ℕ) → List (Option ℕ) → Option (List (Option ℕ))
met_operands [] [] = Some []
met_operands (o ∷ os) (p ∷ ps) = option_map (λ rest. met_operand o p ∷ rest) (met_operands os ps)
met_operands _ _ = None

abbrev pub same_mode : Mode → Mode → Bool
same_mode Fresh Fresh = true
same_mode (MayPut c) (MayPut d) = nat_eq c d
same_mode (MayTake c) (MayTake d) = nat_eq c d
same_mode Begun Begun = true
same_mode Free Free = true
same_mode Changed Changed = true
same_mode _ _ = false

-- modes that differ become changed
abbrev pub met_mode : Mode → Mode → Mode
met_mode m n = cond (same_mode m n) m Changed

abbrev pub same_procedure : Option ℕ → Option ℕ → Bool
same_procedure None None = true
same_procedure (Some m) (Some n) = nat_eq m n
same_procedure _ _ = false

abbrev pub same_within : Within → Within → Bool
same_within v w = nat_eq v.process w.process && same_procedure v.procedure w.procedure

abbrev pub same_block : OpenBlock → OpenBlock → Bool
same_block b d = nat_eq b.number d.number && nat_eq b.words d.words

abbrev pub same_blocks : List OpenBlock → List OpenBlock → Bool
same_blocks [] [] = true
same_blocks (b ∷ bs) (d ∷ ds) = same_block b d && same_blocks bs ds
same_blocks _ _ = false

abbrev pub same_loop : Loop → Loop → Bool
same_loop k l = nat_eq k.counter l.counter && (nat_eq k.first l.first && nat_eq k.last l.last)

abbrev pub same_loops : List Loop → List Loop → Bool
same_loops [] [] = true
same_loops (k ∷ ks) (l ∷ ls) = same_loop k l && same_loops ks ls
same_loops _ _ = false

-- all but operands and mode are the same
abbrev pub is_alike : Entry → Entry → Bool
is_alike e f =
    same_within e.within f.within && (nat_eq e.words f.words && (same_blocks e.blocks f.blocks && (same_loops e.loops f.loops
    && nat_eq e.pieces f.pieces)))

-- the strongest entry that is weaker than both
abbrev pub joined : Entry → Entry → Option Entry
joined e f =
    cond (is_alike e f) (option_map (λ os. record e { operands = os; mode = met_mode e.mode f.mode }) (met_operands e.operands f.operands)) None
