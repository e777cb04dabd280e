-- The first addresses of procedures, as they are put into a set, and the sets of all processes.
use Rattle.std.proofs.Common.{◌≡◌, ◌⊎◌, inl, inr, ℕ, zero, suc, ◌+◌, ◌<◌, ◌≤◌, Bool, true, false, nat_eq, cond, drop, List, [], ◌∷◌, ◌++◌, length, map, slice_get, get_or, add-one, eqb-true, eq-eqb, Option, Some, None, refl, sym, ap, ◌∙◌, arith}
use Rattle.std.proofs.lemmas.List.{length-map}
use Rattle.std.proofs.lemmas.Option.{slice_get_past}
use Rattle.std.specs.BTreeSet.{BTreeSet, contains}
use Rattle.std.proofs.Math.Seq.{drop-cons}
use Rattle.std.specs.BTreeMap.{is_at}
use Rattle.std.specs.Cmp.{nat_cmp_is}
use Rattle.std.specs.declared.cmp.Ordering.TheVariants.{Less, Equal, Greater}
use Rattle.std.specs.Option.{unwrap_or}
use Rattle.std.specs.Ordering.{is_eq, nat_cmp}
use Rattle.rb_code.specs.Instructions.Plain.{Code, Part, part, procedure}
use Rattle.rb_code.specs.WordMachine.Workspace.{no_part, part_of}
use Rattle.rb_code.specs.declared.code.ProcedureCode.{ProcedureCode}
use Rattle.rb_code.specs.declared.code.ProcessCode.{ProcessCode}
use Rattle.rb_flow.specs.Flow.{either, is_start_among}
use Rattle.rb_flow.specs.Ends.{AreStartsOf, has_start, procedures_in}

-- one more is in the set
pub one_more : (x more here rest : Bool) → (here ≡ true → more ≡ true) → (here ≡ false → more ≡ x)
    → either x (either here rest) ≡ either more rest
one_more true more true rest h k = ap (λ b. either b rest) (sym (h refl))
one_more false more true rest h k = ap (λ b. either b rest) (sym (h refl))
one_more x more false rest h k = ap (λ b. either b rest) (sym (k refl))

get_front : {X : Type 0} (xs ys : List X) (i : ℕ) → i < length xs → slice_get (xs ++ ys) i ≡ slice_get xs i
get_front [] ys i h = absurd (omega (arith, h))
get_front (x ∷ xs) ys zero h = refl
get_front (x ∷ xs) ys (suc i) h = get_front xs ys i (omega arith)

get_last : {X : Type 0} (xs : List X) (x : X) → slice_get (xs ++ x ∷ []) (length xs) ≡ Some x
get_last [] x = refl
get_last (y ∷ xs) x = get_last xs x

map_at : (processes : List ProcessCode) (i : ℕ) (one : ProcessCode) → slice_get processes i ≡ Some one
    → slice_get (map part processes) i ≡ Some (part one)
map_at [] i one is = let wrong : ⊥ = cc in absurd wrong
map_at (p ∷ processes) zero one is = let same : p ≡ one = cc in ap (λ (x : ProcessCode). Some (part x)) same
map_at (p ∷ processes) (suc i) one is = map_at processes i one is

-- the sets of the first i processes
pub record AreFirst (processes : List ProcessCode) (i : ℕ) (starts : List (BTreeSet ℕ)) : Type 0 where
  pub many : length starts ≡ i
  pub each : (p a : ℕ) → p < i → has_start (slice_get starts p) a ≡ is_start_among (procedures_in (slice_get (map part processes) p)) a

pub none_yet : (processes : List ProcessCode) → AreFirst processes 0 []
none_yet processes = record { many = refl; each = λ p a h. absurd (omega (arith, h)) }

pub starts_more : (processes : List ProcessCode) (i : ℕ) (starts : List (BTreeSet ℕ)) (one : ProcessCode) (set : BTreeSet ℕ)
    → AreFirst processes i starts → slice_get processes i ≡ Some one
    → ((a : ℕ) → contains nat_cmp set a ≡ is_start_among (map procedure one.procedures.items) a) → AreFirst processes (i + 1) (starts ++ set ∷ [])
starts_more processes i starts one set are is h = record {
  many = longer starts ∙ ap (λ n. n + 1) are.many;
  each = λ p a below. by p a (which p below);
}
  where
    longer : (xs : List (BTreeSet ℕ)) → length (xs ++ set ∷ []) ≡ length xs + 1
    longer [] = refl
    longer (x ∷ xs) = let r = longer xs in omega arith

    which : (p : ℕ) → p < i + 1 → (p < i) ⊎ (p ≡ i)
    which p below = grind arith

    by : (p a : ℕ) → (p < i) ⊎ (p ≡ i)
        → has_start (slice_get (starts ++ set ∷ []) p) a ≡ is_start_among (procedures_in (slice_get (map part processes) p)) a
    by p a (inl below) =
        ap (λ o. has_start o a) (get_front starts (set ∷ []) p (let m = are.many in omega arith)) ∙ are.each p a below
    by p a (inr same) =
        let last : p ≡ length starts = same ∙ sym are.many
        in ap (λ o. has_start o a) (ap (slice_get (starts ++ set ∷ [])) last ∙ get_last starts set) ∙ h a
        ∙ ap (λ o. is_start_among (procedures_in o) a) (sym (ap (slice_get (map part processes)) same ∙ map_at processes i one is))

pub all_started : (processes : List ProcessCode) (i : ℕ) (starts : List (BTreeSet ℕ)) → length processes ≤ i → AreFirst processes i starts
    → AreStartsOf (map part processes) starts
all_started processes i starts all are p a = by (side p)
  where
    side : (q : ℕ) → (q < i) ⊎ (i ≤ q)
    side q = grind arith

    by : (p < i) ⊎ (i ≤ p) → has_start (slice_get starts p) a ≡ is_start_among (procedures_in (slice_get (map part processes) p)) a
    by (inl below) = are.each p a below
    by (inr past) =
        let l = length-map processes part
        in let m = are.many
        in ap (λ o. has_start o a) (slice_get_past starts p (omega arith))
        ∙ ap (λ o. is_start_among (procedures_in o) a) (sym (slice_get_past (map part processes) p (omega arith)))

pub at_process : (c : Code) (starts : List (BTreeSet ℕ)) (p a : ℕ) → AreStartsOf c.processes starts
    → has_start (slice_get starts p) a ≡ is_start_among (part_of c p).procedures a
at_process c starts p a are = are p a ∙ by (slice_get c.processes p)
  where
    by : (o : Option Part) → is_start_among (procedures_in o) a ≡ is_start_among (unwrap_or o no_part).procedures a
    by None = refl
    by (Some one) = refl

at_is : (s a : ℕ) → nat_eq s a ≡ true → is_at (nat_cmp s) a ≡ true
at_is s a h = ap is_eq (sym (nat_cmp_is s a Equal (eqb-true s a h)))

not_at : (s a : ℕ) → nat_eq s a ≡ false → is_at (nat_cmp s) a ≡ false
not_at s a h = by (which s a)
  where
    which : (m n : ℕ) → (m < n) ⊎ ((m ≡ n) ⊎ (n < m))
    which m n = grind arith

    by : (s < a) ⊎ ((s ≡ a) ⊎ (a < s)) → is_at (nat_cmp s) a ≡ false
    by (inl below) = ap is_eq (sym (nat_cmp_is s a Less below))
    by (inr (inl same)) = let e = eq-eqb s a same in let wrong : ⊥ = cc in absurd wrong
    by (inr (inr above)) = ap is_eq (sym (nat_cmp_is s a Greater above))

-- one procedure more is in the set
pub put_one : (procedures : List ProcedureCode) (i : ℕ) (one : ProcedureCode) (before after : BTreeSet ℕ) (a : ℕ) → i < length procedures
    → one ≡ get_or procedures i one
    → ((q : ℕ) → contains nat_cmp after q ≡ cond (is_at (nat_cmp one.start) q) true (contains nat_cmp before q))
    → either (contains nat_cmp before a) (is_start_among (map procedure (drop i procedures)) a)
    ≡ either (contains nat_cmp after a) (is_start_among (map procedure (drop (i + 1) procedures)) a)
put_one procedures i one before after a within is updates =
    let next : drop i procedures ≡ one ∷ drop (i + 1) procedures
    = drop-cons procedures i one within ∙ ap (λ x. x ∷ drop (suc i) procedures) (sym is) ∙ ap (λ k. one ∷ drop k procedures) (sym (add-one i))
    in ap (λ xs. either (contains nat_cmp before a) (is_start_among (map procedure xs) a)) next
    ∙ one_more (contains nat_cmp before a) (contains nat_cmp after a) (nat_eq one.start a) (is_start_among (map procedure (drop (i + 1) procedures)) a)
    (λ h. updates a ∙ ap (λ t. cond t true (contains nat_cmp before a)) (at_is one.start a h))
    (λ h. updates a ∙ ap (λ t. cond t true (contains nat_cmp before a)) (not_at one.start a h))
