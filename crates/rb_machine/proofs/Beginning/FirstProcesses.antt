-- The processes of a code before its first turn, one more by one.
use Rattle.std.proofs.Common.{◌≡◌, ℕ, zero, suc, ◌+◌, ◌<◌, List, [], ◌∷◌, ◌++◌, length, map, take, slice_get, Some, refl, ap, sym, ◌∙◌, arith}
use Rattle.std.specs.Option.{unwrap_or}
use Rattle.std.proofs.lemmas.List.{map_push}
use Rattle.rb_world.proofs.ListFacts.{none_some, slice_get-there, some_same}
use Rattle.rb_code.specs.WordMachine.Workspace.{no_part, part_of}
use Rattle.rb_code.specs.Instructions.Plain.{Code, Part}
use Rattle.rb_code.specs.WordMachine.Turn.{Standing}
use Rattle.rb_code.specs.WordMachine.WordRun.{opening_standing, opening_standings}
use Rattle.rb_proc.specs.Process.{Seen}
use Rattle.rb_machine.specs.Loading.{first_seen}

-- a process before the first turn has its number, and begins at its part
pub opens_at : (p r : ℕ) (parts : List Part) (s : Standing) → slice_get (opening_standings p parts) r ≡ Some s
    → (part : Part) × (slice_get parts r ≡ Some part) × (s ≡ opening_standing (p + r) part)
opens_at p r [] s e = absurd (none_some e)
opens_at p zero (part ∷ parts) s e = (part, refl, sym (some_same e) ∙ ap (λ n. opening_standing n part) (omega arith))
opens_at p (suc r) (part ∷ parts) s e =
    let h = opens_at (p + 1) r parts s e in (h.0, h.1, h.2 ∙ ap (λ n. opening_standing n h.0) (omega arith))

-- the states of one process more
one_more_opens : (p i : ℕ) (parts : List Part) (part : Part) → slice_get parts i ≡ Some part
    → opening_standings p (take (suc i) parts) ≡ opening_standings p (take i parts) ++ opening_standing (p + i) part ∷ []
one_more_opens p i [] part e = absurd (none_some e)
one_more_opens p zero (first ∷ parts) part e =
    let own : p ≡ p + 0 = omega arith in
    ap (λ (x : Part). opening_standing p x ∷ []) (some_same e) ∙ ap (λ n. opening_standing n part ∷ []) own
one_more_opens p (suc i) (first ∷ parts) part e =
    let own : p + 1 + i ≡ p + suc i = omega arith in
    ap (λ (others : List Standing). opening_standing p first ∷ others)
    (one_more_opens (p + 1) i parts part e ∙ ap (λ n. opening_standings (p + 1) (take i parts) ++ opening_standing n part ∷ []) own)

-- and that process once it has settled
pub one_more_first : (c : Code) (i : ℕ) → i < length c.processes
    → map (first_seen c) (opening_standings 0 (take (i + 1) c.processes))
    ≡ map (first_seen c) (opening_standings 0 (take i c.processes)) ++ first_seen c (opening_standing i (part_of c i)) ∷ []
one_more_first c i h =
    let there = slice_get-there c.processes i h in
    let next : i + 1 ≡ suc i = omega arith in
    let own : 0 + i ≡ i = omega arith in
    ap (λ n. map (first_seen c) (opening_standings 0 (take n c.processes))) next
    ∙ (ap (map (first_seen c)) (one_more_opens 0 i c.processes there.0 there.1)
    ∙ (map_push (first_seen c) (opening_standings 0 (take i c.processes)) (opening_standing (0 + i) there.0)
    ∙ ap (λ (s : Standing). map (first_seen c) (opening_standings 0 (take i c.processes)) ++ first_seen c s ∷ [])
    (ap (λ n. opening_standing n there.0) own ∙ ap (opening_standing i) (sym (ap (λ o. unwrap_or o no_part) there.1)))))

-- the same of a list to which the next process was pushed
pub one_more_pushed : (c : Code) (i : ℕ) (procs more : List Seen) (one : Seen) → i < length c.processes
    → procs ≡ map (first_seen c) (opening_standings 0 (take i c.processes)) → one ≡ first_seen c (opening_standing i (part_of c i))
    → more ≡ procs ++ one ∷ [] → more ≡ map (first_seen c) (opening_standings 0 (take (i + 1) c.processes))
one_more_pushed c i procs more one h so_far is pushed =
    pushed ∙ (ap (λ (before : List Seen). before ++ one ∷ []) so_far
    ∙ (ap (λ (x : Seen). map (first_seen c) (opening_standings 0 (take i c.processes)) ++ x ∷ []) is ∙ sym (one_more_first c i h)))
