-- A cascade of rejections keeps an invariant: `during` holds between its steps, and `after` once it has ended.
use Rattle.std.proofs.Common.{◌≡◌, ℕ, zero, suc, Bool, true, false, List, option_map, position, slice_get, Option, Some, None, refl, sym, ap, ◌∙◌, nat_lt, ltb-true, ltb-false}
use Rattle.std.proofs.lemmas.Option.{slice_get-map}
use Rattle.rb_base.specs.declared.event.Cause.{Cause}
use Rattle.rb_base.specs.declared.event.Cause.TheVariants.{Inner}
use Rattle.rb_world.specs.Kind.{Kind}
use Rattle.rb_world.specs.World.{Level, Process, World, is_of, levels_of, process_levels, with_process}
use Rattle.rb_world.specs.Reject.{Happened, all_back, at_place, back_to, exhausted_next, parent_of, private_next, put_back, reject, reject_at, reject_either, together_next, where_inside}
use Rattle.rb_world.specs.Turn.{Told}
use Rattle.rb_world.proofs.TurnFacts.{RunsAt, RejectsAt, NoLevelLeft, all_spent}
use Rattle.rb_world.proofs.Keeping.Invariant.{Between, Within, IsInvariant}
use Rattle.rb_world.proofs.ListFacts.{slice_get-change_at}

-- a process that is put back keeps its status
back_to-status : {S C M : Type 0} (k : Kind S C M) (j : ℕ) (q : Process S C) (level : Option (Level C)) → (back_to k j q level).status ≡ q.status
back_to-status k j q None = refl
back_to-status k j q (Some level) = refl

pub put_back-status : {S C M : Type 0} (k : Kind S C M) (j : ℕ) (q : Process S C) → (put_back k j q).status ≡ q.status
put_back-status k j q = back_to-status k j q (slice_get q.levels j)

at_place-status : {S C M : Type 0} (k : Kind S C M) (place : Option ℕ) (q : Process S C) → (at_place (put_back k) place q).status ≡ q.status
at_place-status k None q = refl
at_place-status k (Some j) q = put_back-status k j q

-- who is process p runs on in the world after a put-back
pub runs_put_back : {S C M : Type 0} (k : Kind S C M) {p : ℕ} {q : Process S C} {w : World S C M} (j : ℕ) → RunsAt p q w
    → RunsAt p (put_back k j q) (with_process p (put_back k j) w)
runs_put_back k {p} {q} {w} j runs = record {
  there = slice_get-change_at p (put_back k j) w.processes ∙ ap (option_map (put_back k j)) runs.there;
  running = put_back-status k j q ∙ runs.running;
}

pub runs_all_back : {S C M : Type 0} (k : Kind S C M) {p : ℕ} {q : Process S C} {w : World S C M} (c : ℕ) → RunsAt p q w
    → RunsAt p (where_inside (put_back k) c q) (all_back k c w)
runs_all_back k {p} {q} {w} c runs = record {
  there = slice_get-map (where_inside (put_back k) c) w.processes p ∙ ap (option_map (where_inside (put_back k) c)) runs.there;
  running = at_place-status k (position (is_of c) q.levels) q ∙ runs.running;
}

module _ {S C M : Type 0} {k : Kind S C M} {before : Between S C M} {during : Within S C M} {after : Between S C M}
    (laws : IsInvariant k before during after) where
  -- the rest of a cascade, from the next level out
  abbrev Rest : ℕ → List Told → ℕ → ℕ → (World S C M → Happened S C M) → Type 0
  Rest t past p left outer = (q : Process S C) (w : World S C M) → during t past p left w → RunsAt p q w → after t past (outer w).0

  private_next-keeps : (t : ℕ) (past : List Told) (p : ℕ) (q : Process S C) (w : World S C M) (j : ℕ) (level : Level C)
      (outer : World S C M → Happened S C M)
      → during t past p (suc j) w → RejectsAt p q w j level → level.facts.conversation ≡ None → Rest t past p j outer
      → (more : Bool) → nat_lt level.alternate level.facts.alternates ≡ more
      → after t past (private_next more p j (with_process p (put_back k j) w) outer).0
  private_next-keeps t past p q w j level outer holds rejects alone rest true e =
      laws.tries_next t past p q w j level holds rejects alone (ltb-true level.alternate level.facts.alternates e)
  private_next-keeps t past p q w j level outer holds rejects alone rest false e =
      rest (put_back k j q) (with_process p (put_back k j) w)
      (laws.is_spent t past p q w j level holds rejects alone (ltb-false level.alternate level.facts.alternates e))
      (runs_put_back k j rejects.runs)

  exhausted_next-keeps : (t : ℕ) (past : List Told) (p : ℕ) (q : Process S C) (w : World S C M) (j : ℕ) (level : Level C)
      (c : ℕ) (outer : World S C M → Happened S C M)
      → during t past p (suc j) w → RejectsAt p q w j level → level.facts.conversation ≡ Some c
      → nat_lt level.alternate level.facts.alternates ≡ false
      → Rest t past p j outer → (parent : Option ℕ) → parent_of (slice_get k.groups c) ≡ parent
      → after t past (exhausted_next k parent c (all_back k c w) outer).0
  exhausted_next-keeps t past p q w j level c outer holds rejects of_c spent rest None e =
      laws.breaks t past p q w j level c holds rejects of_c (ltb-false level.alternate level.facts.alternates spent) e
  exhausted_next-keeps t past p q w j level c outer holds rejects of_c spent rest (Some parent) e =
      rest (where_inside (put_back k) c q) (all_spent k c w)
      (laws.all_are_spent t past p q w j level c parent holds rejects of_c (ltb-false level.alternate level.facts.alternates spent) e)
      (record { there = (runs_all_back k c rejects.runs).there; running = (runs_all_back k c rejects.runs).running })

  together_next-keeps : (t : ℕ) (past : List Told) (p : ℕ) (q : Process S C) (w : World S C M) (j : ℕ) (level : Level C)
      (c : ℕ) (outer : World S C M → Happened S C M)
      → during t past p (suc j) w → RejectsAt p q w j level → level.facts.conversation ≡ Some c → Rest t past p j outer
      → (more : Bool) → nat_lt level.alternate level.facts.alternates ≡ more
      → after t past (together_next k more c (all_back k c w) outer).0
  together_next-keeps t past p q w j level c outer holds rejects of_c rest true e =
      laws.all_try_next t past p q w j level c holds rejects of_c (ltb-true level.alternate level.facts.alternates e)
  together_next-keeps t past p q w j level c outer holds rejects of_c rest false e =
      exhausted_next-keeps t past p q w j level c outer holds rejects of_c e rest (parent_of (slice_get k.groups c)) refl

  reject_either-keeps : (t : ℕ) (past : List Told) (p : ℕ) (q : Process S C) (w : World S C M) (j : ℕ) (cause : Cause)
      (level : Level C) (outer : World S C M → Happened S C M)
      → during t past p (suc j) w → RejectsAt p q w j level → Rest t past p j outer
      → (conversation : Option ℕ) → level.facts.conversation ≡ conversation
      → after t past (reject_either k p j cause level conversation w outer).0
  reject_either-keeps t past p q w j cause level outer holds rejects rest None e =
      private_next-keeps t past p q w j level outer holds rejects e rest (nat_lt level.alternate level.facts.alternates) refl
  reject_either-keeps t past p q w j cause level outer holds rejects rest (Some c) e =
      together_next-keeps t past p q w j level c outer holds rejects e rest (nat_lt level.alternate level.facts.alternates) refl

  reject_at-keeps : (t : ℕ) (past : List Told) (p : ℕ) (q : Process S C) (w : World S C M) (j : ℕ) (cause : Cause)
      (outer : World S C M → Happened S C M)
      → during t past p (suc j) w → RunsAt p q w → Rest t past p j outer
      → (level : Option (Level C)) → slice_get q.levels j ≡ level
      → after t past (reject_at k p j cause level w outer).0
  reject_at-keeps t past p q w j cause outer holds runs rest None e = laws.is_gone t past p q w j holds runs e
  reject_at-keeps t past p q w j cause outer holds runs rest (Some level) e =
      reject_either-keeps t past p q w j cause level outer holds (record { runs = runs; place = e }) rest level.facts.conversation refl

  -- a cascade that begins at the innermost of so many levels
  pub reject-keeps : (t : ℕ) (past : List Told) (p : ℕ) (left : ℕ) (cause : Cause) (q : Process S C) (w : World S C M)
      → during t past p left w → RunsAt p q w → after t past (reject k p left cause w).0
  reject-keeps t past p zero cause q w holds runs = laws.falls t past p q w zero cause holds runs (NoLevelLeft refl)
  reject-keeps t past p (suc j) cause q w holds runs =
      reject_at-keeps t past p q w j cause (λ outer. reject k p j Inner outer) holds runs
      (λ r v. reject-keeps t past p j Inner r v)
      (slice_get (process_levels w p) j) (ap (λ (o : Option (Process S C)). slice_get (levels_of o) j) (sym runs.there))
