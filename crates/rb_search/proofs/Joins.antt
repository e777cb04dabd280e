-- Two entries meet in the strongest one that is weaker than both.
use Rattle.std.proofs.Common.{◌≡◌, ℕ, ◌&&◌, nat_eq, cond, Bool, true, false, List, [], ◌∷◌, Option, Some, None, option_map, refl, sym, ap, ◌∙◌, subst}
use Rattle.rb_code.specs.SoundCode.Sound.{Entry, IsWeaker, WeakerMode, WeakerOperand, WeakerOperands, Mode, Fresh, MayPut, MayTake, Begun, Free, Changed, Within, OpenBlock, Loop}
use Rattle.rb_entries.specs.Join.{is_alike, joined, met_mode, met_operand, met_operands, same_block, same_blocks, same_procedure, same_loop, same_loops, same_mode, same_within}
use Rattle.rb_flow.proofs.Tests.{Tells, always, both_tell, eq_tells, never}
use Rattle.rb_flow.proofs.Weaker.{mode_itself}

procedure_tells : (o p : Option ℕ) → Tells (same_procedure o p) (o ≡ p)
procedure_tells None None = always refl
procedure_tells None (Some n) = never (λ h. cc)
procedure_tells (Some m) None = never (λ h. cc)
procedure_tells (Some m) (Some n) = (λ h. let e : m ≡ n = cc in (eq_tells m n).0 e, λ h. ap Some ((eq_tells m n).1 h))

within_tells : (v w : Within) → Tells (same_within v w) (v ≡ w)
within_tells v w =
    let r = both_tell (nat_eq v.process w.process) (same_procedure v.procedure w.procedure) (eq_tells v.process w.process)
    (procedure_tells v.procedure w.procedure)
    in (
      λ h. r.0 (ap (λ x. x.process) h, ap (λ x. x.procedure) h),
      λ h. let p = r.1 h in let q = p.0 in let s = p.1 in λ i. record { process = q i; procedure = s i },
    )

block_tells : (b d : OpenBlock) → Tells (same_block b d) (b ≡ d)
block_tells v w =
    let r = both_tell (nat_eq v.number w.number) (nat_eq v.words w.words) (eq_tells v.number w.number) (eq_tells v.words w.words)
    in (
      λ h. r.0 (ap (λ x. x.number) h, ap (λ x. x.words) h),
      λ h. let p = r.1 h in let q = p.0 in let s = p.1 in λ i. record { number = q i; words = s i },
    )

pub loop_tells : (k l : Loop) → Tells (same_loop k l) (k ≡ l)
loop_tells v w =
    let r = both_tell (nat_eq v.counter w.counter) (nat_eq v.first w.first && nat_eq v.last w.last) (eq_tells v.counter w.counter)
    (both_tell (nat_eq v.first w.first) (nat_eq v.last w.last) (eq_tells v.first w.first) (eq_tells v.last w.last))
    in (
      λ h. r.0 (ap (λ x. x.counter) h, (ap (λ x. x.first) h, ap (λ x. x.last) h)),
      λ h. let p = r.1 h in let q = p.0 in let s = p.1.0 in let u = p.1.1 in λ i. record { counter = q i; first = s i; last = u i },
    )

cons_tells : {A : Type 0} (x y : A) (xs ys : List A) (b d : Bool) → Tells b (x ≡ y) → Tells d (xs ≡ ys) → Tells (b && d) ((x ∷ xs) ≡ (y ∷ ys))
cons_tells x y xs ys b d h k =
    let r = both_tell b d h k
    in (λ e. let p : x ≡ y = cc in let q : xs ≡ ys = cc in r.0 (p, q), λ e. let p = r.1 e in let q = p.0 in let s = p.1 in λ i. q i ∷ s i)

pub blocks_tell : (bs ds : List OpenBlock) → Tells (same_blocks bs ds) (bs ≡ ds)
blocks_tell [] [] = always refl
blocks_tell [] (d ∷ ds) = never (λ h. cc)
blocks_tell (b ∷ bs) [] = never (λ h. cc)
blocks_tell (b ∷ bs) (d ∷ ds) = cons_tells b d bs ds (same_block b d) (same_blocks bs ds) (block_tells b d) (blocks_tell bs ds)

pub loops_tell : (bs ds : List Loop) → Tells (same_loops bs ds) (bs ≡ ds)
loops_tell [] [] = always refl
loops_tell [] (d ∷ ds) = never (λ h. cc)
loops_tell (b ∷ bs) [] = never (λ h. cc)
loops_tell (b ∷ bs) (d ∷ ds) = cons_tells b d bs ds (same_loop b d) (same_loops bs ds) (loop_tells b d) (loops_tell bs ds)

mode_tells : (m n : Mode) → Tells (same_mode m n) (m ≡ n)
mode_tells Fresh Fresh = always refl
mode_tells Begun Begun = always refl
mode_tells Free Free = always refl
mode_tells Changed Changed = always refl
mode_tells (MayPut c) (MayPut d) = (λ h. let e : c ≡ d = cc in (eq_tells c d).0 e, λ h. ap MayPut ((eq_tells c d).1 h))
mode_tells (MayTake c) (MayTake d) = (λ h. let e : c ≡ d = cc in (eq_tells c d).0 e, λ h. ap MayTake ((eq_tells c d).1 h))
mode_tells Fresh (MayPut d) = never (λ h. cc)
mode_tells Fresh (MayTake d) = never (λ h. cc)
mode_tells Fresh Begun = never (λ h. cc)
mode_tells Fresh Free = never (λ h. cc)
mode_tells Fresh Changed = never (λ h. cc)
mode_tells (MayPut c) Fresh = never (λ h. cc)
mode_tells (MayPut c) (MayTake d) = never (λ h. cc)
mode_tells (MayPut c) Begun = never (λ h. cc)
mode_tells (MayPut c) Free = never (λ h. cc)
mode_tells (MayPut c) Changed = never (λ h. cc)
mode_tells (MayTake c) Fresh = never (λ h. cc)
mode_tells (MayTake c) (MayPut d) = never (λ h. cc)
mode_tells (MayTake c) Begun = never (λ h. cc)
mode_tells (MayTake c) Free = never (λ h. cc)
mode_tells (MayTake c) Changed = never (λ h. cc)
mode_tells Begun Fresh = never (λ h. cc)
mode_tells Begun (MayPut d) = never (λ h. cc)
mode_tells Begun (MayTake d) = never (λ h. cc)
mode_tells Begun Free = never (λ h. cc)
mode_tells Begun Changed = never (λ h. cc)
mode_tells Free Fresh = never (λ h. cc)
mode_tells Free (MayPut d) = never (λ h. cc)
mode_tells Free (MayTake d) = never (λ h. cc)
mode_tells Free Begun = never (λ h. cc)
mode_tells Free Changed = never (λ h. cc)
mode_tells Changed Fresh = never (λ h. cc)
mode_tells Changed (MayPut d) = never (λ h. cc)
mode_tells Changed (MayTake d) = never (λ h. cc)
mode_tells Changed Begun = never (λ h. cc)
mode_tells Changed Free = never (λ h. cc)

alike_tells : (e f : Entry) → Tells (is_alike e f)
    ((e.within ≡ f.within) × ((e.words ≡ f.words) × ((e.blocks ≡ f.blocks) × ((e.loops ≡ f.loops) × (e.pieces ≡ f.pieces)))))
alike_tells e f =
    both_tell _ _ (within_tells e.within f.within) (both_tell _ _ (eq_tells e.words f.words) (both_tell _ _ (blocks_tell e.blocks f.blocks)
    (both_tell _ _ (loops_tell e.loops f.loops) (eq_tells e.pieces f.pieces))))

-- modes
chosen : (b : Bool) (m n : Mode) → Tells b (m ≡ n) → WeakerMode m (cond b m Changed) × WeakerMode n (cond b m Changed)
chosen true m n h = (mode_itself m, subst (λ x. WeakerMode x m) (h.1 refl) (mode_itself m))
chosen false m n h = (tt, tt)

met_mode_weaker : (m n : Mode) → WeakerMode m (met_mode m n) × WeakerMode n (met_mode m n)
met_mode_weaker m n = chosen (same_mode m n) m n (mode_tells m n)

chosen_least : (b : Bool) (m n o : Mode) → Tells b (m ≡ n) → WeakerMode m o → WeakerMode n o → WeakerMode (cond b m Changed) o
chosen_least true m n o t h k = h
chosen_least false m n Changed t h k = tt
chosen_least false m n Fresh t h k = let e : false ≡ true = t.0 (h ∙ sym k) in cc
chosen_least false m n (MayPut d) t h k = let e : false ≡ true = t.0 (h ∙ sym k) in cc
chosen_least false m n (MayTake d) t h k = let e : false ≡ true = t.0 (h ∙ sym k) in cc
chosen_least false m n Begun t h k = let e : false ≡ true = t.0 (h ∙ sym k) in cc
chosen_least false m n Free t h k = let e : false ≡ true = t.0 (h ∙ sym k) in cc

-- operands
some_chosen : (b : Bool) (m n : ℕ) → Tells b (m ≡ n) → WeakerOperand (Some m) (cond b (Some m) None) × WeakerOperand (Some n) (cond b (Some m) None)
some_chosen true m n h = (refl, sym (h.1 refl))
some_chosen false m n h = (tt, tt)

met_operand_weaker : (o p : Option ℕ) → WeakerOperand o (met_operand o p) × WeakerOperand p (met_operand o p)
met_operand_weaker None None = (tt, tt)
met_operand_weaker None (Some n) = (tt, tt)
met_operand_weaker (Some m) None = (tt, tt)
met_operand_weaker (Some m) (Some n) = some_chosen (nat_eq m n) m n (eq_tells m n)

some_least : (b : Bool) (m n : ℕ) (q : Option ℕ) → Tells b (m ≡ n) → WeakerOperand (Some m) q → WeakerOperand (Some n) q
    → WeakerOperand (cond b (Some m) None) q
some_least true m n q t h k = h
some_least false m n None t h k = tt
some_least false m n (Some x) t h k = let e : false ≡ true = t.0 (h ∙ sym k) in cc

met_operand_least : (o p q : Option ℕ) → WeakerOperand o q → WeakerOperand p q → WeakerOperand (met_operand o p) q
met_operand_least o p None h k = tt
met_operand_least None p (Some x) h k = absurd h
met_operand_least (Some m) None (Some x) h k = absurd k
met_operand_least (Some m) (Some n) (Some x) h k = some_least (nat_eq m n) m n (Some x) (eq_tells m n) h k

-- the lists that a list leads to, if there is one
abbrev IfMet : Option (List (Option ℕ)) → (List (Option ℕ) → Type 0) → Type 0
IfMet None P = Unit {0}
IfMet (Some os) P = P os

met_more : (o p : Option ℕ) (os ps : List (Option ℕ)) (r : Option (List (Option ℕ)))
    → IfMet r (λ rest. WeakerOperands os rest × WeakerOperands ps rest)
    → IfMet (option_map (λ rest. met_operand o p ∷ rest) r) (λ all. WeakerOperands (o ∷ os) all × WeakerOperands (p ∷ ps) all)
met_more o p os ps None h = tt
met_more o p os ps (Some rest) h = let w = met_operand_weaker o p in ((w.0, h.0), (w.1, h.1))

met_operands_weaker : (os ps : List (Option ℕ)) → IfMet (met_operands os ps) (λ all. WeakerOperands os all × WeakerOperands ps all)
met_operands_weaker [] [] = (tt, tt)
met_operands_weaker [] (p ∷ ps) = tt
met_operands_weaker (o ∷ os) [] = tt
met_operands_weaker (o ∷ os) (p ∷ ps) = met_more o p os ps (met_operands os ps) (met_operands_weaker os ps)

abbrev IsMet : Option (List (Option ℕ)) → (List (Option ℕ) → Type 0) → Type 0
IsMet None P = ⊥
IsMet (Some os) P = P os

least_more : (o p q : Option ℕ) (qs : List (Option ℕ)) (r : Option (List (Option ℕ))) → WeakerOperand (met_operand o p) q
    → IsMet r (λ rest. WeakerOperands rest qs) → IsMet (option_map (λ rest. met_operand o p ∷ rest) r) (λ all. WeakerOperands all (q ∷ qs))
least_more o p q qs None h k = absurd k
least_more o p q qs (Some rest) h k = (h, k)

met_operands_least : (os ps qs : List (Option ℕ)) → WeakerOperands os qs → WeakerOperands ps qs
    → IsMet (met_operands os ps) (λ all. WeakerOperands all qs)
met_operands_least [] [] [] h k = tt
met_operands_least [] [] (q ∷ qs) h k = absurd h
met_operands_least [] (p ∷ ps) [] h k = absurd k
met_operands_least [] (p ∷ ps) (q ∷ qs) h k = absurd h
met_operands_least (o ∷ os) [] [] h k = absurd h
met_operands_least (o ∷ os) [] (q ∷ qs) h k = absurd k
met_operands_least (o ∷ os) (p ∷ ps) [] h k = absurd h
met_operands_least (o ∷ os) (p ∷ ps) (q ∷ qs) h k =
    least_more o p q qs (met_operands os ps) (met_operand_least o p q h.0 k.0) (met_operands_least os ps qs h.1 k.1)

-- entries
pub IfJoined : Option Entry → (Entry → Type 0) → Type 0
IfJoined None P = Unit {0}
IfJoined (Some g) P = P g

put_weaker : (e f : Entry) (r : Option (List (Option ℕ))) → (is_alike e f ≡ true)
    → IfMet r (λ all. WeakerOperands e.operands all × WeakerOperands f.operands all)
    → (g : Entry) → option_map (λ os. record e { operands = os; mode = met_mode e.mode f.mode }) r ≡ Some g → IsWeaker e g × IsWeaker f g
put_weaker e f None a h g k = let wrong : ⊥ = cc in absurd wrong
put_weaker e f (Some os) a h g k =
    let same = (alike_tells e f).1 a
    in let w = met_mode_weaker e.mode f.mode
    in let is : record e { operands = os; mode = met_mode e.mode f.mode } ≡ g = cc
    in subst (λ x. IsWeaker e x × IsWeaker f x) is (
      record { within = refl; operands = h.0; words = refl; blocks = refl; loops = refl; pieces = refl; mode = w.0 },
      record { within = same.0; operands = h.1; words = same.1.0; blocks = same.1.1.0; loops = same.1.1.1.0; pieces = same.1.1.1.1; mode = w.1 },
    )

if_alike : (b : Bool) (e f g : Entry) (r : Option Entry) → (b ≡ true → r ≡ Some g → IsWeaker e g × IsWeaker f g)
    → cond b r None ≡ Some g → IsWeaker e g × IsWeaker f g
if_alike true e f g r h k = h refl k
if_alike false e f g r h k = let wrong : ⊥ = cc in absurd wrong

-- what they meet in is weaker than both
pub joined_is_weaker : (e f g : Entry) → joined e f ≡ Some g → IsWeaker e g × IsWeaker f g
joined_is_weaker e f g k =
    if_alike (is_alike e f) e f g _ (λ a h. put_weaker e f (met_operands e.operands f.operands) a (met_operands_weaker e.operands f.operands) g h) k

put_least : (e f h : Entry) (r : Option (List (Option ℕ))) → IsWeaker e h → IsWeaker f h → IsMet r (λ all. WeakerOperands all h.operands)
    → (g : Entry) × (option_map (λ os. record e { operands = os; mode = met_mode e.mode f.mode }) r ≡ Some g) × IsWeaker g h
put_least e f h None x y m = absurd m
put_least e f h (Some os) x y m = (
  record e { operands = os; mode = met_mode e.mode f.mode },
  refl,
  record {
    within = x.within;
    operands = m;
    words = x.words;
    blocks = x.blocks;
    loops = x.loops;
    pieces = x.pieces;
    mode = chosen_least (same_mode e.mode f.mode) e.mode f.mode h.mode (mode_tells e.mode f.mode) x.mode y.mode;
  },
)

-- and stronger than whatever is weaker than both
pub joined_is_strongest : (e f h : Entry) → IsWeaker e h → IsWeaker f h → (g : Entry) × (joined e f ≡ Some g) × IsWeaker g h
joined_is_strongest e f h x y =
    let a : is_alike e f ≡ true = (alike_tells e f).0 (
      sym x.within ∙ y.within,
      (
        sym x.words ∙ y.words,
        (
          sym x.blocks ∙ y.blocks,
          (
            sym x.loops
                ∙ y.loops,
            sym x.pieces ∙ y.pieces,
          ),
        ),
      ),
    )
    in subst (λ b. (g : Entry) × (cond b (option_map (λ os. record e { operands = os; mode = met_mode e.mode f.mode })
    (met_operands e.operands f.operands)) None ≡ Some g) × IsWeaker g h)
    (sym a) (put_least e f h (met_operands e.operands f.operands) x y (met_operands_least e.operands f.operands h.operands x.operands y.operands))

-- an entry meets itself in itself
operand_alone : (n : ℕ) → cond (nat_eq n n) (Some n) None ≡ Some n
operand_alone n = ap (λ b. cond b (Some n) None) ((eq_tells n n).0 refl)

met_alone : (o : Option ℕ) → met_operand o o ≡ o
met_alone None = refl
met_alone (Some n) = operand_alone n

pub met_itself : (os : List (Option ℕ)) → met_operands os os ≡ Some os
met_itself [] = refl
met_itself (o ∷ os) =
    ap (option_map (λ rest. met_operand o o ∷ rest)) (met_itself os) ∙ ap (λ x. Some (x ∷ os)) (met_alone o)
