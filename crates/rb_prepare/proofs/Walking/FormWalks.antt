-- The code of forms of statements is walked where that of their parts is.
use Rattle.std.proofs.Common.{◌≡◌, ℕ, zero, suc, ◌+◌, ◌<◌, ◌≤◌, false, List, [], ◌∷◌, length, slice_get, Some, refl, sym, ◌∙◌, subst, arith}
use Rattle.rb_syntax.specs.Tree.{Tree}
use Rattle.rb_code.specs.Instructions.Plain.{Block, Code}
use Rattle.rb_code.specs.SoundCode.Sound.{Each, alternates_at}
use Rattle.rb_code.specs.Agreement.Template.{One, Template}
use Rattle.rb_code.specs.Agreement.Forms.{DropCode, FrameCode, IfElseForm, IfForm, ReceiveElseForm, ReceiveForm, RecoveryForm, WhileForm}
use Rattle.rb_code.specs.declared.instr.Instr.{Instr}
use Rattle.rb_code.specs.declared.instr.Instr.TheVariants.{Turn, Jump, JumpZero, Frame, Drop, There, Absent, Enter, Start, Test}
use Rattle.rb_prepare.proofs.Walking.Laid.{BlockLies, Inside, Right, each_weaker, inside_more, laid_one, one_if}
use Rattle.rb_prepare.proofs.Onward.{AllOnward, Onward, and_on, at_last, goes_on, moved_to, up_to, ways_onward}
use Rattle.rb_prepare.proofs.Walking.Walked.{IsPlain, Part, Scene, Walked, part, part_as, part_flat, part_one, part_then, walked_as, walked_none, walked_one, walked_then, wider}
use Rattle.rb_prepare.proofs.Walking.Ways.{each_more}
use Rattle.rb_prepare.proofs.Walking.ExpressionWalks.{Walks, nothing}

module _ (c : Code) (tree : Tree) (s : Scene) (plain : (instr : Instr) → IsPlain instr → s.counts instr ≡ false) where
  -- a template is walked, and counts n
  abbrev pub WalksBy : ℕ → Template → Type 0
  WalksBy n P = (a b : ℕ) → P c a b → Walked c tree s n a b

  pub before : (n a m b : ℕ) → Walked c tree s 0 a m → Walked c tree s n m b → Walked c tree s n a b
  before n a m b first next = walked_as c tree s (0 + n) n a b (omega arith) (walked_then c tree s 0 n a m b first next)

  pub behind : (n a m b : ℕ) → Walked c tree s n a m → Walked c tree s 0 m b → Walked c tree s n a b
  behind n a m b first next = walked_as c tree s (n + 0) n a b (omega arith) (walked_then c tree s n 0 a m b first next)

  part_before : (a b n p m q : ℕ) → Part c tree s a b 0 p m → Part c tree s a b n m q → Part c tree s a b n p q
  part_before a b n p m q first next = part_as c tree s a b (0 + n) n p q (omega arith) (part_then c tree s a b 0 n p m q first next)

  part_behind : (a b n p m q : ℕ) → Part c tree s a b n p m → Part c tree s a b 0 m q → Part c tree s a b n p q
  part_behind a b n p m q first next = part_as c tree s a b (n + 0) n p q (omega arith) (part_then c tree s a b n 0 p m q first next)

  one' : (a b p q : ℕ) (instr : Instr) → (slice_get c.instrs p ≡ Some instr) × (q ≡ p + 1) → Right c tree s.process a b p instr → IsPlain instr
      → Part c tree s a b 0 p q
  one' a b p q instr one right is = part_one c tree s plain a b p q instr one right is

  pub frame_walked : (k : ℕ) → Walks c tree s plain (FrameCode k)
  frame_walked zero a b e = walked_none c tree s a b e
  frame_walked (suc k) a b one = walked_one c tree s plain a b (Frame (suc k)) one tt tt tt

  pub drop_walked : (k : ℕ) → Walks c tree s plain (DropCode k)
  drop_walked zero a b e = walked_none c tree s a b e
  drop_walked (suc k) a b one = walked_one c tree s plain a b (Drop (suc k)) one tt tt tt

  pub if_walked : (n : ℕ) (test body : Template) → Walks c tree s plain test → WalksBy n body → WalksBy n (IfForm (One Turn) test body)
  if_walked n test body tests bodies a b (end, (m, turn, (r, judged, (q, zero_test, (d, code, at_end))))) =
      let t = tests m r judged in let y = bodies q d code in
      let o0 = t.laid.ordered in let o1 = y.laid.ordered in let e0 = turn.1 in let e1 = zero_test.1 in let e2 = at_end.1 in let to_end = at_end.0 in
      record {
        laid =
            part_before a b n a m b (one' a b a m Turn turn tt tt)
            (part_before a b n m r b (part c tree s a b 0 m r (omega arith) (omega arith) t)
            (part_before a b n r q b (one' a b r q (JumpZero end) zero_test (omega arith, omega arith) tt)
            (part_behind a b n q d b (part c tree s a b n q d (omega arith) (omega arith) y) (nothing c tree s plain a b d b e2))));
        reached = λ from first.
            let all0 = t.reached from (goes_on c from a m Turn turn tt first) in
            let ways = ways_onward c from r (JumpZero end) zero_test.0 (all0 r o0 (omega arith)) in
            let all1 = y.reached from (moved_to c from (r + 1) q e1 (ways.1.0 (omega arith))) in
            and_on c from a m b (omega arith) first (up_to c from m r q b (omega arith) all0
            (up_to c from q d d b (omega arith) all1 (at_last c from d b e2 (all1 d o1 (omega arith)))));
      }

  pub if_else_walked : (n k : ℕ) (test body other : Template) → Walks c tree s plain test → WalksBy n body → WalksBy k other
      → WalksBy (n + k) (IfElseForm (One Turn) test body other)
  if_else_walked n k test body other tests bodies others a b
      (fails, (end, (m, turn, (r, judged, (q, zero_test, (d, code, (u, jump, (v, at_no, (x, else_code, at_end))))))))) =
      let t = tests m r judged in let y = bodies q d code in let z = others v x else_code in
      let o0 = t.laid.ordered in let o1 = y.laid.ordered in let o2 = z.laid.ordered in
      let e0 = turn.1 in let e1 = zero_test.1 in let e2 = jump.1 in let e3 = at_no.1 in let e4 = at_end.1 in let to_no =
      at_no.0 in let to_end = at_end.0 in
      record {
        laid =
            part_before a b (n + k) a m b (one' a b a m Turn turn tt tt)
            (part_before a b (n + k) m r b (part c tree s a b 0 m r (omega arith) (omega arith) t)
            (part_before a b (n + k) r q b (one' a b r q (JumpZero fails) zero_test (omega arith, omega arith) tt)
            (part_then c tree s a b n k q d b (part c tree s a b n q d (omega arith) (omega arith) y)
            (part_before a b k d u b (one' a b d u (Jump end) jump (omega arith, omega arith) tt)
            (part_before a b k u v b (nothing c tree s plain a b u v e3)
            (part_behind a b k v x b (part c tree s a b k v x (omega arith) (omega arith) z) (nothing c tree s plain a b x b e4)))))));
        reached = λ from first.
            let all0 = t.reached from (goes_on c from a m Turn turn tt first) in
            let ways = ways_onward c from r (JumpZero fails) zero_test.0 (all0 r o0 (omega arith)) in
            let all1 = y.reached from (moved_to c from (r + 1) q e1 (ways.1.0 (omega arith))) in
            let all2 = z.reached from (moved_to c from fails v (e3 ∙ to_no) (ways.0 (omega arith))) in
            and_on c from a m b (omega arith) first (up_to c from m r q b (omega arith) all0
            (up_to c from q d v b (omega arith) all1
            (up_to c from v x x b (omega arith) all2 (at_last c from x b e4 (all2 x o2 (omega arith))))));
      }

  pub while_walked : (n : ℕ) (test body : Template) → Walks c tree s plain test → WalksBy n body → WalksBy n (WhileForm (One Turn) test body)
  while_walked n test body tests bodies a b (loop, (end, (a0, at_loop, (m, turn, (r, judged, (q, zero_test, (d, code, (u, jump, at_end)))))))) =
      let t = tests m r judged in let y = bodies q d code in
      let o0 = t.laid.ordered in let o1 = y.laid.ordered in let e = at_loop.1 in let to_loop = at_loop.0 in
      let e0 = turn.1 in let e1 = zero_test.1 in let e2 = jump.1 in let e3 = at_end.1 in let to_end = at_end.0 in
      record {
        laid =
            part_before a b n a a0 b (nothing c tree s plain a b a a0 e)
            (part_before a b n a0 m b (one' a b a0 m Turn turn tt tt)
            (part_before a b n m r b (part c tree s a b 0 m r (omega arith) (omega arith) t)
            (part_before a b n r q b (one' a b r q (JumpZero end) zero_test (omega arith, omega arith) tt)
            (part_behind a b n q d b (part c tree s a b n q d (omega arith) (omega arith) y)
            (part_flat c tree s plain a b d u b (one' a b d u (Jump loop) jump (omega arith, omega arith) tt)
            (nothing c tree s plain a b u b e3))))));
        reached = λ from first.
            let begun = moved_to c from a a0 e first in
            let all0 = t.reached from (goes_on c from a0 m Turn turn tt begun) in
            let ways = ways_onward c from r (JumpZero end) zero_test.0 (all0 r o0 (omega arith)) in
            let all1 = y.reached from (moved_to c from (r + 1) q e1 (ways.1.0 (omega arith))) in
            and_on c from a a0 b (omega arith) first (and_on c from a0 m b (omega arith) begun
            (up_to c from m r q b (omega arith) all0 (up_to c from q d b b (omega arith) all1
            (at_last c from b b refl (moved_to c from end b (e3 ∙ to_end) (ways.0 (omega arith)))))));
      }

  pub receive_walked : (channel : ℕ) (taken : Template) → channel < length c.channels → Walks c tree s plain taken
      → Walks c tree s plain (ReceiveForm (One Turn) channel taken)
  receive_walked channel taken known takes a b (m, turn, (r, there, code)) =
      before 0 a m b (walked_one c tree s plain a m Turn turn tt tt tt)
      (before 0 m r b (walked_one c tree s plain m r (There channel) there known tt tt) (takes r b code))

  pub receive_else_walked : (n channel : ℕ) (taken other : Template) → channel < length c.channels → Walks c tree s plain taken → WalksBy n other
      → WalksBy n (ReceiveElseForm (One Turn) channel taken other)
  receive_else_walked n channel taken other known takes others a b
      (none, (end, (m, turn, (r, absent, (q, code, (u, jump, (v, at_none, (x, else_code, at_end)))))))) =
      let t = takes r q code in let z = others v x else_code in
      let o0 = t.laid.ordered in let o1 = z.laid.ordered in
      let e0 = turn.1 in let e1 = absent.1 in let e2 = jump.1 in let e3 = at_none.1 in let e4 = at_end.1 in let to_none =
      at_none.0 in let to_end = at_end.0 in
      record {
        laid =
            part_before a b n a m b (one' a b a m Turn turn tt tt)
            (part_before a b n m r b (one' a b m r (Absent channel none) absent (known, (omega arith, omega arith)) tt)
            (part_before a b n r q b (part c tree s a b 0 r q (omega arith) (omega arith) t)
            (part_before a b n q u b (one' a b q u (Jump end) jump (omega arith, omega arith) tt)
            (part_before a b n u v b (nothing c tree s plain a b u v e3)
            (part_behind a b n v x b (part c tree s a b n v x (omega arith) (omega arith) z) (nothing c tree s plain a b x b e4))))));
        reached = λ from first.
            let on = goes_on c from a m Turn turn tt first in
            let ways = ways_onward c from m (Absent channel none) absent.0 on in
            let all0 = t.reached from (moved_to c from (m + 1) r e1 (ways.1.0 (omega arith))) in
            let all1 = z.reached from (moved_to c from none v (e3 ∙ to_none) (ways.0 (omega arith))) in
            and_on c from a m b (omega arith) first (and_on c from m r b (omega arith) on
            (up_to c from r q v b (omega arith) all0
            (up_to c from v x x b (omega arith) all1 (at_last c from x b e4 (all1 x o1 (omega arith))))));
      }

  -- Alternates from p up to q: each begins at its address; and where these are reached, and what else is asked, all is.
  pub record Alternatives (n p q k : ℕ) (addresses : List ℕ) (asked : ℕ → Type 0) : Type 0 where
    pub laid : Part c tree s p q n p q
    pub inside : Each addresses (Inside p q)
    pub many : length addresses ≡ k
    pub reached : (from : ℕ) → asked from → Each addresses (Onward c from) → AllOnward c from p q

  pub no_other : (p q : ℕ) (addresses : List ℕ) → addresses ≡ [] → q ≡ p → Alternatives 0 p q 0 addresses (λ from. Onward c from p)
  no_other p q addresses none here =
      subst (λ xs. Alternatives 0 p q 0 xs (λ from. Onward c from p)) (sym none) record {
        laid = nothing c tree s plain p q p q here;
        inside = tt;
        many = refl;
        reached = λ from first all. at_last c from p q here first;
      }

  pub no_alternative : (p q : ℕ) (addresses : List ℕ) → addresses ≡ [] → q ≡ p → Alternatives 0 p q 0 addresses (λ from. 1 ≤ 0)
  no_alternative p q addresses none here =
      subst (λ xs. Alternatives 0 p q 0 xs (λ from. 1 ≤ 0)) (sym none) record {
        laid = nothing c tree s plain p q p q here;
        inside = tt;
        many = refl;
        reached = λ from some all. absurd (omega arith);
      }

  pub alternative : (n k p m q i : ℕ) (addresses more : List ℕ) → addresses ≡ p ∷ more → Walked c tree s n p m
      → Alternatives k m q i more (λ from. Onward c from m) → Alternatives (n + k) p q (i + 1) addresses (λ from. 1 ≤ i + 1)
  alternative n k p m q i addresses more is body others =
      let o0 = body.laid.ordered in let o1 = others.laid.ordered in
      subst (λ xs. Alternatives (n + k) p q (i + 1) xs (λ from. 1 ≤ i + 1)) (sym is) record {
        laid =
            part_then c tree s p q n k p m q (part c tree s p q n p m (omega arith) o1 body)
            (wider c tree s m q p q k m q o0 (omega arith) others.laid);
        inside = ((omega arith, omega arith), each_weaker (Inside m q) (Inside p q) (inside_more m q p q o0 (omega arith)) more others.inside);
        many = omega (arith, others.many);
        reached = λ from some all.
            let first = body.reached from all.0 in
            up_to c from p m m q (omega arith) first (others.reached from (first m o0 (omega arith)) all.1);
      }

  pub other_alternative : (n k p d m q i test : ℕ) (addresses more : List ℕ) → test ≡ q → (slice_get c.instrs p ≡ Some (Jump test)) × (d ≡ p + 1)
      → addresses ≡ d ∷ more → Walked c tree s n d m → Alternatives k m q i more (λ from. Onward c from m)
      → Alternatives (n + k) p q (i + 1) addresses (λ from. Onward c from p)
  other_alternative n k p d m q i test addresses more at_test jump is body others =
      let o0 = body.laid.ordered in let o1 = others.laid.ordered in let e0 = jump.1 in
      subst (λ xs. Alternatives (n + k) p q (i + 1) xs (λ from. Onward c from p)) (sym is) record {
        laid =
            part_before p q (n + k) p d q (one' p q p d (Jump test) jump (omega arith, omega arith) tt)
            (part_then c tree s p q n k d m q (part c tree s p q n d m (omega arith) o1 body)
            (wider c tree s m q p q k m q (omega arith) (omega arith) others.laid));
        inside = (
          (omega arith, omega arith),
          each_weaker (Inside m q) (Inside p q) (inside_more m q p q (omega arith) (omega arith)) more others.inside,
        );
        many = omega (arith, others.many);
        reached = λ from first all.
            let there = body.reached from all.0 in
            and_on c from p d q (omega arith) first
            (up_to c from d m m q (omega arith) there (others.reached from (there m o0 (omega arith)) all.1));
      }

  -- a recovery block
  pub recovery_walked : (number n k w : ℕ) (Tells : Block → Type 0) (alternates : List ℕ → ℕ → Template) (test : Template)
      → 1 ≤ k → ((block : Block) → slice_get c.blocks number ≡ Some block → Tells block
      → one_if (s.counts (Enter number)) + (one_if (s.counts (Start number)) + one_if (s.counts (Test number))) ≡ w)
      → ((block : Block) (p q : ℕ) → slice_get c.blocks number ≡ Some block → Tells block → length block.alternates ≡ k → p ≤ q
      → Inside p q block.restart → Inside p q block.test → Each block.alternates (Inside p q) → BlockLies tree p q block)
      → ((addresses : List ℕ) (to p q : ℕ) → to ≡ q → alternates addresses to c p q → Alternatives n p q k addresses (λ from. 1 ≤ k))
      → Walks c tree s plain test → WalksBy (w + n) (RecoveryForm (One Turn) number Tells alternates test)
  recovery_walked number n k w Tells alternates test some weighs lies alternative_walks tests a b (
    block,
    at,
    (
      a0,
      tells,
      (p, turn, (q, enter, (r, at_restart, (u, turn2, (v, start, (x, codes, (y, at_test, (z, turn3, (d, judged, accepts))))))))),
    ),
  ) =
      let all = alternative_walks block.alternates block.test v x (sym at_test.0) codes in
      let t = tests z d judged in
      let here = tells.1 in let e0 = turn.1 in let e1 = enter.1 in let e2 = at_restart.1 in let e3 = turn2.1 in let e4 =
      start.1 in let e5 = at_test.1 in
      let e6 = turn3.1 in let e7 = accepts.1 in let o0 = all.laid.ordered in let o1 = t.laid.ordered in
      let restart_at = at_restart.0 in let test_at = at_test.0 in
      let block_lies : BlockLies tree a b block =
      lies block a b at tells.0 all.many (omega arith) (omega arith, omega arith) (omega arith, omega arith)
      (each_weaker (Inside v x) (Inside a b) (inside_more v x a b (omega arith) (omega arith)) block.alternates all.inside) in
      let i = one_if (s.counts (Enter number)) in let j = one_if (s.counts (Start number)) in let l = one_if (s.counts (Test number)) in
      record {
        laid =
            part_as c tree s a b (i + (j + (n + l))) (w + n) a b (omega (arith, weighs block at tells.0))
            (part_before a b (i + (j + (n + l))) a a0 b (nothing c tree s plain a b a a0 here)
            (part_before a b (i + (j + (n + l))) a0 p b (one' a b a0 p Turn turn tt tt)
            (part_then c tree s a b i (j + (n + l)) p q b
            (laid_one c tree s.process s.counts a b i p q (Enter number) enter (block, at, block_lies) refl)
            (part_before a b (j + (n + l)) q r b (nothing c tree s plain a b q r e2)
            (part_before a b (j + (n + l)) r u b (one' a b r u Turn turn2 tt tt)
            (part_then c tree s a b j (n + l) u v b
            (laid_one c tree s.process s.counts a b j u v (Start number) start (block, at, block_lies) refl)
            (part_then c tree s a b n l v x b (wider c tree s v x a b n v x (omega arith) (omega arith) all.laid)
            (part_before a b l x y b (nothing c tree s plain a b x y e5)
            (part_before a b l y z b (one' a b y z Turn turn3 tt tt)
            (part_before a b l z d b (part c tree s a b 0 z d (omega arith) (omega arith) t)
            (laid_one c tree s.process s.counts a b l d b (Test number) accepts (block, at, block_lies) refl)))))))))));
        reached = λ from first.
            let r0 = moved_to c from a a0 here first in
            let r1 = goes_on c from a0 p Turn turn tt r0 in
            let r2 = moved_to c from q r e2 (goes_on c from p q (Enter number) enter tt r1) in
            let r3 = goes_on c from r u Turn turn2 tt r2 in
            let ahead = subst (λ o. Each (alternates_at o) (λ i. u < i → Onward c from i)) at (ways_onward c from u (Start number) start.0 r3) in
            let begun = each_more block.alternates (λ i. u < i → Onward c from i) (Inside v x) (Onward c from)
            (λ i go inside. go (let low = inside.0 in omega arith)) ahead all.inside in
            let within = all.reached from some begun in
            let r4 = moved_to c from x y e5 (within x o0 (omega arith)) in
            let judging = t.reached from (goes_on c from y z Turn turn3 tt r4) in
            let r5 = judging d o1 (omega arith) in
            and_on c from a a0 b (omega arith) first
            (and_on c from a0 p b (omega arith) r0 (and_on c from p r b (omega arith) r1
            (and_on c from r u b (omega arith) r2 (and_on c from u v b (omega arith) r3 (up_to c from v x y b (omega arith) within
            (and_on c from y z b (omega arith) r4 (up_to c from z d d b (omega arith) judging
            (and_on c from d b b (omega arith) r5
            (at_last c from b b refl (goes_on c from d b (Test number) accepts tt r5))))))))));
      }
