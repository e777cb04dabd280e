-- Tables of recovery blocks, from those of their alternates and of the expression of their test.
use Rattle.std.proofs.Common.{◌≡◌, ℕ, ◌+◌, ◌≤◌, List, [], ◌∷◌, slice_get, Some, refl, sym, ◌∙◌, subst, arith}
use Rattle.rb_world.specs.Kind.{Membership}
use Rattle.rb_code.specs.Instructions.Plain.{Block, Code}
use Rattle.rb_code.specs.SoundCode.Sound.{Begun, Changed, Each, Fresh, IsAbove, LeadsTo, MayEnter, Mode, OpenBlock, RestartIs, Table, Within, alternates_at, conversation_of}
use Rattle.rb_code.specs.Agreement.Template.{One}
use Rattle.rb_code.specs.declared.instr.Instr.TheVariants.{Enter, Jump, Start, Test, Turn}
use Rattle.rb_code.proofs.Tables.Tabled.{Around}
use Rattle.rb_code.proofs.Tables.Stretches.{Stretch, begins_with, in_order, no_stretch, told_less}
use Rattle.rb_code.proofs.Tables.Resting.{behind_it, judged, resting, rests_weaker, turn_first}
use Rattle.rb_code.proofs.Tables.BranchTables.{Enclosed, Judged, Onward, Rests, Statements, Tested, jump_on}

module _ (c : Code) (groups : List Membership) (P : Around) (within : Within) where
  -- an alternate begins at each of the addresses
  abbrev pub AllBegin : ℕ → List OpenBlock → List ℕ → Around
  AllBegin words blocks addresses t = Each addresses (λ x. Rests c groups P within words blocks Begun x t)

  -- Alternates, which lead on behind them all, and the addresses of them.
  abbrev pub Alternatives : ℕ → List OpenBlock → Mode → ℕ → ℕ → List ℕ → Type 0
  Alternatives words blocks mode a b addresses =
      Stretch c groups P (Onward c groups P within words blocks b)
      (λ t. Rests c groups P within words blocks mode a t × AllBegin words blocks addresses t) a b

  module _ (words : ℕ) (blocks : List OpenBlock) where
    pub no_alternative : (mode : Mode) (a : ℕ) → Alternatives words blocks mode a a []
    no_alternative mode a =
        let asks : Around = Onward c groups P within words blocks a in
        told_less c groups P asks asks asks (λ t. Rests c groups P within words blocks mode a t × AllBegin words blocks [] t) a a
        (no_stretch c groups P asks a) (λ t asked. asked) (λ t told asked. (rests_weaker c groups t a within words blocks mode told, tt))

    pub alternative : (a m b : ℕ) (others : List ℕ) → Enclosed c groups P within words blocks Begun a m → Alternatives words blocks Changed m b others
        → Alternatives words blocks Begun a b (a ∷ others)
    alternative a m b others body more =
        let asks : Around = Onward c groups P within words blocks b in
        let rest : Around = λ t. Rests c groups P within words blocks Changed m t × AllBegin words blocks others t in
        told_less c groups P asks asks (λ t. Rests c groups P within words blocks Begun a t × rest t)
        (λ t. Rests c groups P within words blocks Begun a t × AllBegin words blocks (a ∷ others) t) a b
        (in_order c groups P asks (Onward c groups P within words blocks m)
        (Rests c groups P within words blocks Begun a) rest a m b body more
        (λ t known asked. known.0))
        (λ t asked. asked) (λ t told asked. (told.0, (told.0, told.1.1)))

    pub other_alternative : (a m b : ℕ) (addresses : List ℕ) → IsAbove blocks words → One (Jump b) c a m
        → Alternatives words blocks Begun m b addresses → Alternatives words blocks Changed a b addresses
    other_alternative a m b addresses above jump more =
        let asks : Around = Onward c groups P within words blocks b in
        let rest : Around = λ t. Rests c groups P within words blocks Begun m t × AllBegin words blocks addresses t in
        told_less c groups P asks asks (λ t. Rests c groups P within words blocks Changed a t × rest t)
        (λ t. Rests c groups P within words blocks Changed a t × AllBegin words blocks addresses t) a b
        (jump_on c groups P within words blocks above asks rest a m b b jump more.ordered more (λ t known asked. asked))
        (λ t asked. asked) (λ t told asked. (told.0, told.1.1))

  module _ (words : ℕ) (blocks : List OpenBlock) (above : IsAbove blocks words) (number : ℕ) where
    abbrev inner : List OpenBlock
    inner = record { number = number; words = words } ∷ blocks

    within_it : words ≤ words
    within_it = omega arith

    -- the acceptance test
    acceptance : (a m n b : ℕ) → One Turn c a m → Tested c groups P within words inner m n → One (Test number) c n b
        → Stretch c groups P (Onward c groups P within words blocks b) (Rests c groups P within words inner Changed a) a b
    acceptance a m n b turn test accept =
        let asks : Around = Onward c groups P within words blocks b in
        let last : Around = λ t. LeadsTo c groups t n (judged within words inner) × asks t in
        let tells : Around = λ t. Rests c groups P within words inner Fresh m t × last t in
        let decides : Stretch c groups P asks last n b =
        begins_with c groups P asks asks asks (Test number) n b b (judged within words inner) accept refl within_it (no_stretch c groups P asks b)
        (λ t here asked. asked)
        (λ t all here known asked. (
          tt,
          refl,
          refl,
          (refl, (refl, refl, behind_it c groups t (Test number) n b (resting within words blocks Changed) accept asked)),
        )) in
        let tested : Stretch c groups P asks tells m b =
        in_order c groups P asks (Judged c groups P within words inner n) (Rests c groups P within words inner Fresh m) last m n b test decides
        (λ t known asked. known.0) in
        told_less c groups P asks asks (λ t. Rests c groups P within words inner Changed a t × tells t)
        (Rests c groups P within words inner Changed a) a b
        (turn_first c groups P asks asks tells a m b within words inner within_it turn tested (λ t known. known.0) (λ t here asked. asked))
        (λ t asked. asked) (λ t told asked. told.0)

    -- the start of its alternates, these, and the test
    tried : (a m n d b : ℕ) (block : Block) → slice_get c.blocks number ≡ Some block → One Turn c a m → One (Start number) c m n
        → Alternatives words inner Begun n d block.alternates
        → Stretch c groups P (Onward c groups P within words blocks b) (Rests c groups P within words inner Changed d) d b
        → Stretch c groups P (Onward c groups P within words blocks b) (Rests c groups P within words inner Changed a) a b
    tried a m n d b block there turn start alternatives test =
        let asks : Around = Onward c groups P within words blocks b in
        let begun : Around = λ t. Rests c groups P within words inner Begun n t × AllBegin words inner block.alternates t in
        let parts : Around = λ t. begun t × Rests c groups P within words inner Changed d t in
        let tells : Around = λ t. Rests c groups P within words inner Fresh m t × parts t in
        let both : Stretch c groups P asks parts n b =
        in_order c groups P asks (Onward c groups P within words inner d) begun (Rests c groups P within words inner Changed d) n d b
        alternatives test (λ t known asked. known) in
        let started : Stretch c groups P asks tells m b =
        begins_with c groups P asks parts asks (Start number) m n b
        (resting within words inner Fresh) start refl within_it both (λ t here asked. asked)
        (λ t all here known asked. (
          refl,
          refl,
          (refl, refl),
          subst (λ o. Each (alternates_at o) (λ x. LeadsTo c groups t x (resting within words inner Begun))) (sym there) known.0.1,
        )) in
        told_less c groups P asks asks (λ t. Rests c groups P within words inner Changed a t × tells t)
        (Rests c groups P within words inner Changed a) a b
        (turn_first c groups P asks asks tells a m b within words inner within_it turn started (λ t known. known.0) (λ t here asked. asked))
        (λ t asked. asked) (λ t told asked. told.0)

    -- A recovery block: its entry, the start of its alternates, these, and its acceptance test.
    pub recovery_stretch : (a m n i d e x y b : ℕ) (block : Block) → slice_get c.blocks number ≡ Some block
        → ((t : Table) → MayEnter c groups t block.conversation (resting within words blocks Fresh))
        → One Turn c a m → One (Enter number) c m n → n ≡ block.restart → One Turn c n i → One (Start number) c i d
        → Alternatives words inner Begun d e block.alternates → One Turn c e x → Tested c groups P within words inner x y → One (Test number) c y b
        → Statements c groups P within words blocks a b
    recovery_stretch a m n i d e x y b block there may turn enter restart again start alternatives line test accept =
        let asks : Around = Onward c groups P within words blocks b in
        let tells : Around = λ t. Rests c groups P within words blocks Fresh m t × Rests c groups P within words inner Changed n t in
        let entered : Stretch c groups P asks tells m b =
        begins_with c groups P asks (Rests c groups P within words inner Changed n) asks (Enter number) m n b
        (resting within words blocks Fresh) enter refl above
        (tried n i d e b block there again start alternatives (acceptance e x y b line test accept)) (λ t here asked. asked)
        (λ t all here known asked. (
          refl,
          refl,
          subst (λ o. RestartIs o (m + 1)) (sym there) (sym restart ∙ enter.1),
          subst (λ k. slice_get c.instrs k ≡ Some Turn) enter.1 again.0,
          subst (λ o. MayEnter c groups t (conversation_of o) (resting within words blocks Fresh)) (sym there) (may t),
          behind_it c groups t (Enter number) m n (resting within words inner Changed) enter known,
        )) in
        told_less c groups P asks asks (λ t. Rests c groups P within words blocks Changed a t × tells t)
        (Rests c groups P within words blocks Changed a) a b
        (turn_first c groups P asks asks tells a m b within words blocks above turn entered (λ t known. known.0) (λ t here asked. asked))
        (λ t asked. asked) (λ t told asked. told.0)
