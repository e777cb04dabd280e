-- Tables of branches, loops and blocks, from those of their parts.
use Rattle.std.proofs.Common.{◌≡◌, inr, ℕ, zero, suc, ◌+◌, ◌-◌, ◌≤◌, List, [], ◌∷◌, slice_get, refl, sym, subst, arith}
use Rattle.rb_world.specs.Kind.{Membership}
use Rattle.rb_code.specs.Instructions.Plain.{Code}
use Rattle.rb_code.specs.SoundCode.Sound.{Changed, Free, Fresh, IsAbove, IsMain, IsReceiver, LeadsTo, MayFrame, MayTake, Mode, OpenBlock, Table, Within}
use Rattle.rb_code.specs.Agreement.Template.{One}
use Rattle.rb_code.specs.Agreement.Forms.{DropCode, FrameCode}
use Rattle.rb_code.specs.declared.instr.Instr.TheVariants.{Absent, Drop, Frame, Jump, JumpZero, Turn}
use Rattle.rb_code.proofs.Tables.Tabled.{Around}
use Rattle.rb_code.proofs.Tables.Stretches.{Stretch, begins_with, in_order, no_stretch, told_less}
use Rattle.rb_code.proofs.Tables.Resting.{ahead_of, behind_it, judged, resting, rests_weaker, turn_first}

module _ (c : Code) (groups : List Membership) (P : Around) (within : Within) where
  -- at an address a process rests, or goes on
  abbrev pub Rests : ℕ → List OpenBlock → Mode → ℕ → Around
  Rests words blocks mode a t = LeadsTo c groups t a (resting within words blocks mode)

  -- where it goes on changed
  abbrev pub Onward : ℕ → List OpenBlock → ℕ → Around
  Onward words blocks b t = LeadsTo c groups t b (resting within words blocks Changed)

  -- a statement, or more; a block, which a jump may lead to; and the expression of a test
  abbrev pub Statements : ℕ → List OpenBlock → ℕ → ℕ → Type 0
  Statements words blocks a b = Stretch c groups P (Onward words blocks b) (Rests words blocks Changed a) a b

  abbrev pub Enclosed : ℕ → List OpenBlock → Mode → ℕ → ℕ → Type 0
  Enclosed words blocks mode a b = Stretch c groups P (Onward words blocks b) (Rests words blocks mode a) a b

  abbrev pub Judged : ℕ → List OpenBlock → ℕ → Around
  Judged words blocks b t = LeadsTo c groups t b (judged within words blocks)

  abbrev pub Tested : ℕ → List OpenBlock → ℕ → ℕ → Type 0
  Tested words blocks a b = Stretch c groups P (Judged words blocks b) (Rests words blocks Fresh a) a b

  -- no statement, and one after another
  pub no_statement : (words : ℕ) (blocks : List OpenBlock) (a : ℕ) → Statements words blocks a a
  no_statement words blocks a =
      told_less c groups P (Onward words blocks a) (Onward words blocks a) (Onward words blocks a) (Rests words blocks Changed a) a a
      (no_stretch c groups P (Onward words blocks a) a) (λ t asked. asked) (λ t told asked. told)

  pub then_more : (words : ℕ) (blocks : List OpenBlock) (mode : Mode) (a m b : ℕ) → Enclosed words blocks mode a m → Statements words blocks m b
      → Enclosed words blocks mode a b
  then_more words blocks mode a m b first rest =
      told_less c groups P (Onward words blocks b) (Onward words blocks b) (λ t. Rests words blocks mode a t × Rests words blocks Changed m t)
      (Rests words blocks mode a) a b
      (in_order c groups P (Onward words blocks b) (Onward words blocks m) (Rests words blocks mode a) (Rests words blocks Changed m) a m b first rest
      (λ t known asked. known))
      (λ t asked. asked) (λ t told asked. told.0)

  module _ (words : ℕ) (blocks : List OpenBlock) (above : IsAbove blocks words) where
    -- a jump behind a block, with what follows
    pub jump_on : (asks behind : Around) (a m b d : ℕ) → One (Jump d) c a m → m ≤ d → Stretch c groups P asks behind m b
        → ((t : Table) → behind t → asks t → Rests words blocks Changed d t)
        → Stretch c groups P asks (λ t. Rests words blocks Changed a t × behind t) a b
    jump_on asks behind a m b d jump up rest there =
        begins_with c groups P asks behind asks (Jump d) a m b (resting within words blocks Changed) jump refl above rest (λ t here asked. asked)
        (λ t all here known asked. (ahead_of c groups t (Jump d) a m d jump up, there t known asked))

    -- a test, by which it goes on or jumps ahead
    choose : (asks behind : Around) (a n m b d : ℕ) → Tested words blocks a n → One (JumpZero d) c n m → m ≤ d → Stretch c groups P asks behind m b
        → ((t : Table) → behind t → asks t → Rests words blocks Free m t)
        → ((t : Table) → behind t → asks t → Rests words blocks Free d t)
        → Stretch c groups P asks (λ t. Rests words blocks Fresh a t × (LeadsTo c groups t n (judged within words blocks) × behind t)) a b
    choose asks behind a n m b d test jump up rest onward there =
        in_order c groups P asks (Judged words blocks n) (Rests words blocks Fresh a)
        (λ t. LeadsTo c groups t n (judged within words blocks) × behind t)
        a n b test
        (begins_with c groups P asks behind asks (JumpZero d) n m b (judged within words blocks) jump refl above rest (λ t here asked. asked)
        (λ t all here known asked. (
          ahead_of c groups t (JumpZero d) n m d jump up,
          there t known asked,
          behind_it c groups t (JumpZero d) n m (resting within words blocks Free) jump (onward t known asked),
        )))
        (λ t known asked. known.0)

    pub if_stretch : (a m n d b : ℕ) → One Turn c a m → Tested words blocks m n → One (JumpZero b) c n d → Enclosed words blocks Free d b
        → Statements words blocks a b
    if_stretch a m n d b turn test jump body =
        let asks = Onward words blocks b in
        let tells : Around = λ t. Rests words blocks Fresh m t × (LeadsTo c groups t n (judged within words blocks) × Rests words blocks Free d t) in
        let chosen : Stretch c groups P asks tells m b = choose asks (Rests words blocks Free d) m n d b b test jump body.ordered body
        (λ t known asked. known)
        (λ t known asked. rests_weaker c groups t b within words blocks Free asked) in
        told_less c groups P asks asks (λ t. Rests words blocks Changed a t × tells t) (Rests words blocks Changed a) a b
        (turn_first c groups P asks asks tells a m b within words blocks above turn chosen (λ t known. known.0) (λ t here asked. asked))
        (λ t asked. asked) (λ t told asked. told.0)

    -- a block, a jump behind another, and that other
    either : (d n e b : ℕ) (mode other : Mode) → Enclosed words blocks mode d n → One (Jump b) c n e → Enclosed words blocks other e b
        → Stretch c groups P (Onward words blocks b)
        (λ t. Rests words blocks mode d t × (Rests words blocks Changed n t × Rests words blocks other e t)) d b
    either d n e b mode other body jump otherwise =
        in_order c groups P (Onward words blocks b) (Onward words blocks n) (Rests words blocks mode d)
        (λ t. Rests words blocks Changed n t × Rests words blocks other e t) d n b body
        (jump_on (Onward words blocks b) (Rests words blocks other e) n e b b jump otherwise.ordered otherwise (λ t known asked. asked))
        (λ t known asked. known.0)

    pub if_else_stretch : (a m n d i e b : ℕ) → One Turn c a m → Tested words blocks m n → One (JumpZero e) c n d → Enclosed words blocks Free d i
        → One (Jump b) c i e → Enclosed words blocks Free e b → Statements words blocks a b
    if_else_stretch a m n d i e b turn test jump body onward otherwise =
        let asks = Onward words blocks b in
        let parts : Around = λ t. Rests words blocks Free d t × (Rests words blocks Changed i t × Rests words blocks Free e t) in
        let tells : Around = λ t. Rests words blocks Fresh m t × (LeadsTo c groups t n (judged within words blocks) × parts t) in
        let up : d ≤ e = omega (arith, body.ordered, onward.1) in
        let chosen : Stretch c groups P asks tells m b = choose asks parts m n d b e test jump up (either d i e b Free Free body onward otherwise)
        (λ t known asked. known.0) (λ t known asked. known.1.1) in
        told_less c groups P asks asks (λ t. Rests words blocks Changed a t × tells t) (Rests words blocks Changed a) a b
        (turn_first c groups P asks asks tells a m b within words blocks above turn chosen (λ t known. known.0) (λ t here asked. asked))
        (λ t asked. asked) (λ t told asked. told.0)

    -- a loop leads back to its `turn`
    pub while_stretch : (a m n d i b : ℕ) → One Turn c a m → Tested words blocks m n → One (JumpZero b) c n d → Enclosed words blocks Free d i
        → One (Jump a) c i b → Statements words blocks a b
    while_stretch a m n d i b turn test jump body back =
        let asks = Onward words blocks b in
        let inside : Around = λ t. Onward words blocks b t × Rests words blocks Changed a t in
        let parts : Around = λ t. Rests words blocks Free d t × (Rests words blocks Changed i t × inside t) in
        let tells : Around = λ t. Rests words blocks Fresh m t × (LeadsTo c groups t n (judged within words blocks) × parts t) in
        let up : d ≤ b = omega (arith, body.ordered, back.1) in
        let returns : Stretch c groups P inside (λ t. Rests words blocks Changed i t × inside t) i b =
        begins_with c groups P inside inside inside (Jump a) i b b (resting within words blocks Changed) back refl above
        (no_stretch c groups P inside b)
        (λ t here asked. asked) (λ t all here known asked. (inr turn.0, asked.1)) in
        let whole : Stretch c groups P inside parts d b =
        in_order c groups P inside (Onward words blocks i) (Rests words blocks Free d)
        (λ t. Rests words blocks Changed i t × inside t) d i b body returns
        (λ t known asked. known.0) in
        let chosen : Stretch c groups P inside tells m b = choose inside parts m n d b b test jump up whole
        (λ t known asked. known.0)
        (λ t known asked. rests_weaker c groups t b within words blocks Free asked.0) in
        told_less c groups P asks asks (λ t. Rests words blocks Changed a t × tells t) (Rests words blocks Changed a) a b
        (turn_first c groups P asks inside tells a m b within words blocks above turn chosen (λ t known. known.0) (λ t here asked. (asked, here)))
        (λ t asked. asked) (λ t told asked. told.0)

    -- a receipt with an `else`: the message goes to its place, or the block of the `else` is executed
    pub receive_else_stretch : (a m n i e b channel : ℕ) → IsMain within → IsReceiver (slice_get c.channels channel) within.process
        → One Turn c a m → One (Absent channel e) c m n → Enclosed words blocks (MayTake channel) n i → One (Jump b) c i e
        → Enclosed words blocks Free e b → Statements words blocks a b
    receive_else_stretch a m n i e b channel main receiver turn absent taken onward otherwise =
        let asks = Onward words blocks b in
        let parts : Around = λ t. Rests words blocks (MayTake channel) n t × (Rests words blocks Changed i t × Rests words blocks Free e t) in
        let tells : Around = λ t. Rests words blocks Fresh m t × parts t in
        let up : n ≤ e = omega (arith, taken.ordered, onward.1) in
        let asked_for : Stretch c groups P asks tells m b =
        begins_with c groups P asks parts asks (Absent channel e) m n b (resting within words blocks Fresh) absent refl above
        (either n i e b (MayTake channel) Free taken onward otherwise) (λ t here asked. asked)
        (λ t all here known asked. (
          refl,
          main,
          receiver,
          ahead_of c groups t (Absent channel e) m n e absent up,
          known.1.1,
          behind_it c groups t (Absent channel e) m n (resting within words blocks (MayTake channel)) absent known.0,
        )) in
        told_less c groups P asks asks (λ t. Rests words blocks Changed a t × tells t) (Rests words blocks Changed a) a b
        (turn_first c groups P asks asks tells a m b within words blocks above turn asked_for (λ t known. known.0) (λ t here asked. asked))
        (λ t asked. asked) (λ t told asked. told.0)

    -- words of a frame are pushed, and dropped
    framed : (w : ℕ) (a m b : ℕ) (mode : Mode) → MayFrame mode → One (Frame w) c a m → Statements (words + w) blocks m b
        → (d : ℕ) → One (Drop w) c b d
        → Enclosed words blocks mode a d
    framed w a m b mode may frame statements d drop =
        let asks = Onward words blocks d in
        let last : Stretch c groups P asks (λ t. Rests (words + w) blocks Changed b t × asks t) b d =
        begins_with c groups P asks asks asks (Drop w) b d d (resting within (words + w) blocks Changed) drop refl (higher blocks above)
        (no_stretch c groups P asks d) (λ t here asked. asked)
        (λ t all here known asked. (
          low,
          subst (IsAbove blocks) (sym back) above,
          behind_it c groups t (Drop w) b d (resting within (words + w - w) blocks Changed) drop
              (subst (λ n. LeadsTo c groups t d (resting within n blocks Changed)) (sym back) asked),
        )) in
        let inner : Around = λ t. Rests (words + w) blocks Changed m t × (Rests (words + w) blocks Changed b t × asks t) in
        let whole : Stretch c groups P asks inner m d =
        in_order c groups P asks (Onward (words + w) blocks b) (Rests (words + w) blocks Changed m)
        (λ t. Rests (words + w) blocks Changed b t × asks t) m b d statements last (λ t known asked. known.0) in
        told_less c groups P asks asks (λ t. Rests words blocks mode a t × inner t) (Rests words blocks mode a) a d
        (begins_with c groups P asks inner asks (Frame w) a m d (resting within words blocks mode) frame refl above whole (λ t here asked. asked)
        (λ t all here known asked. (may, behind_it c groups t (Frame w) a m (resting within (words + w) blocks Changed) frame known.0)))
        (λ t asked. asked) (λ t told asked. told.0)
      where
        back : words + w - w ≡ words
        back = omega arith

        low : w ≤ words + w
        low = omega arith

        higher : (opened : List OpenBlock) → IsAbove opened words → IsAbove opened (words + w)
        higher [] h = tt
        higher (block ∷ around) h = omega (arith, h)

    unframed : (w : ℕ) (a b : ℕ) (mode : Mode) → w ≡ 0 → Statements (words + w) blocks a b → Enclosed words blocks mode a b
    unframed w a b mode none statements =
        told_less c groups P (Onward words blocks b) (Onward words blocks b) (Rests words blocks Changed a) (Rests words blocks mode a) a b
        (subst (λ n. Statements n blocks a b) back statements)
        (λ t asked. asked) (λ t told asked. rests_weaker c groups t a within words blocks mode told)
      where
        back : words + w ≡ words
        back = omega (arith, none)

    pub block_stretch : (w : ℕ) (a m b d : ℕ) (mode : Mode) → MayFrame mode → FrameCode w c a m → Statements (words + w) blocks m b → DropCode w c b d
        → Enclosed words blocks mode a d
    block_stretch zero a m b d mode may frame statements drop =
        subst (λ x. Enclosed words blocks mode x d) frame
        (subst (λ x. Enclosed words blocks mode m x) (sym drop) (unframed 0 m b mode refl statements))
    block_stretch (suc w) a m b d mode may frame statements drop = framed (suc w) a m b mode may frame statements d drop
