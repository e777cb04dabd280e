-- Trees as erasure asks for them: their parts, from which come the meaning's kind and the plain run's.
use Rattle.std.proofs.Common.{◌≡◌, ◌+◌, ℕ, ℤ, pos, nat_eq, cond, List, [], ◌∷◌, ◌++◌, length, slice_get, unwrap_or, Option, Some, refl, sym, ap, ◌∙◌, arith, length-append, add-zero}
use Rattle.std.proofs.lemmas.List.{append-nil, length-map}
use Rattle.rb_syntax.specs.Tree.{Tree}
use Rattle.rb_world.specs.Kind.{Want, NothingLeft, SendsOn, ReceivesOn, MayReceiveOn, Enters, Starts, Acts}
use Rattle.rb_world.proofs.Erasing.ErasableKinds.{IsFront, Moves, Parts, receives_on, sends_by, takes_by, takes_if}
use Rattle.rb_world.proofs.ListFacts.{none_some, some_same, slice_get-front}
use Rattle.rb_meaning.specs.Environment.{Environment}
use Rattle.rb_meaning.specs.State.{State, settle, with_held, with_kept}
use Rattle.rb_meaning.specs.Step.{enter, step, wants_first}
use Rattle.rb_meaning.specs.Groups.{channels_of, ends_of, groups_of}
use Rattle.rb_meaning.specs.Meaning.{message_number, sent_on, taken_on}
use Rattle.rb_meaning.specs.PlainRun.{EntryPoint, entry_point}
use Rattle.rb_meaning.proofs.Trees.MailOfSteps.{Posts, Quiet, Posted, Collected, also_there, front_of_sent, list_on, sent_here, taken_here}

-- the parts of a program's kinds
abbrev pub parts_of : Tree → Parts State Environment EntryPoint
parts_of tree = record {
  channels = channels_of tree;
  groups = groups_of tree;
  want = λ s. wants_first tree s.items;
  settle = settle;
  enter = enter;
  environment = λ s. s.environment;
  step = step tree;
  sent = λ s c. length (sent_on s c);
  taken = taken_on;
  message = message_number;
  held = λ s. s.held;
  release = with_held [];
  keep = λ t alternate s. with_kept (s.kept ++ (t, alternate) ∷ []) s;
  kept = λ s. s.kept;
  point = entry_point;
  point_environment = λ point. point.environment;
  point_sent = λ point c. unwrap_or (slice_get point.sent c) 0;
  point_taken = λ point c. unwrap_or (slice_get point.taken c) 0;
}

-- a receipt sends nothing, and takes what it is given
receipt_sends_none : (want : Want) (d c : ℕ) → receives_on want ≡ Some d → sends_by want c ≡ 0
receipt_sends_none NothingLeft d c e = refl
receipt_sends_none (SendsOn x) d c e = absurd (none_some e)
receipt_sends_none (ReceivesOn x) d c e = refl
receipt_sends_none (MayReceiveOn x) d c e = refl
receipt_sends_none (Enters facts) d c e = refl
receipt_sends_none Starts d c e = refl
receipt_sends_none Acts d c e = refl

receipt_takes : (want : Want) (message : Option ℤ) (d c : ℕ) (v : ℤ) → receives_on want ≡ Some d → message ≡ Some v
    → takes_by want message c ≡ cond (nat_eq d c) 1 0
receipt_takes NothingLeft message d c v e m = absurd (none_some e)
receipt_takes (SendsOn x) message d c v e m = absurd (none_some e)
receipt_takes (ReceivesOn x) message d c v e m = ap (λ o. takes_if o (nat_eq x c)) m ∙ ap (λ n. cond (nat_eq n c) 1 0) (some_same e)
receipt_takes (MayReceiveOn x) message d c v e m = ap (λ o. takes_if o (nat_eq x c)) m ∙ ap (λ n. cond (nat_eq n c) 1 0) (some_same e)
receipt_takes (Enters facts) message d c v e m = absurd (none_some e)
receipt_takes Starts message d c v e m = absurd (none_some e)
receipt_takes Acts message d c v e m = absurd (none_some e)

module _ (tree : Tree) (message : Option ℤ) (s t : State) where
  -- the old lists are fronts of the new
  front_by : ((c : ℕ) → (rest : List ℤ) × (list_on t.sent c ≡ list_on s.sent c ++ rest)) → IsFront (parts_of tree) s t
  front_by fronts = record {
    shorter = λ c.
        let e : length (list_on t.sent c) ≡ length (list_on s.sent c) + length (fronts c).0 =
        ap length (fronts c).1 ∙ length-append (list_on s.sent c) (fronts c).0 in
        omega (arith, e);
    same = λ c n below.
        ap (λ xs. unwrap_or (slice_get xs n) (pos 0)) (fronts c).1
        ∙ ap (λ o. unwrap_or o (pos 0)) (slice_get-front (list_on s.sent c) (fronts c).0 n below);
  }

  front_same : t.sent ≡ s.sent → IsFront (parts_of tree) s t
  front_same e = front_by (λ c. ([], ap (λ xs. list_on xs c) e ∙ sym (append-nil (list_on s.sent c))))

  -- lists that are the same, where nothing is sent or taken
  sent_same : (want : Want) (c : ℕ) → t.sent ≡ s.sent → sends_by want c ≡ 0 → length (list_on t.sent c) ≡ length (list_on s.sent c) + sends_by want c
  sent_same want c e none =
      ap (λ xs. length (list_on xs c)) e ∙ sym (add-zero (length (list_on s.sent c))) ∙ ap (λ n. length (list_on s.sent c) + n) (sym none)

  taken_same : (want : Want) (c : ℕ) → t.taken ≡ s.taken → takes_by want message c ≡ 0 → taken_on t c ≡ taken_on s c + takes_by want message c
  taken_same want c e none = ap (λ xs. unwrap_or (slice_get xs c) 0) e ∙ sym (add-zero (taken_on s c)) ∙ ap (λ n. taken_on s c + n) (sym none)

  -- so a step that did one of the three to mail moves as it should
  pub moves_by : length s.sent ≡ length tree.channels → length s.taken ≡ length tree.channels → Posts (wants_first tree s.items) message s t
      → Moves (parts_of tree) message s t
  moves_by sent taken (Quiet es et ek no_sends no_takes) = record {
    front = front_same es;
    sent = λ c ends at. sent_same (wants_first tree s.items) c es (no_sends c);
    taken = λ c ends at. taken_same (wants_first tree s.items) c et (no_takes c);
    kept = ek;
  }
  moves_by sent taken (Posted d v w es et ek) = record {
    front = front_by (λ c. let f = front_of_sent d c v s.sent in (f.0, ap (λ xs. list_on xs c) es ∙ f.1));
    sent = λ c ends at.
        let there = also_there (channels_of tree) s.sent c ends (sent ∙ sym (length-map tree.channels (ends_of tree))) at in
        ap (λ xs. length (list_on xs c)) es ∙ sent_here (nat_eq d c) d c v s.sent there.0 refl there.1
        ∙ ap (λ x. length (list_on s.sent c) + sends_by x c) (sym w);
    taken = λ c ends at. taken_same (wants_first tree s.items) c et (ap (λ x. takes_by x message c) w);
    kept = ek;
  }
  moves_by sent taken (Collected d v w m es et ek) = record {
    front = front_same es;
    sent = λ c ends at. sent_same (wants_first tree s.items) c es (receipt_sends_none (wants_first tree s.items) d c w);
    taken = λ c ends at.
        let there = also_there (channels_of tree) s.taken c ends (taken ∙ sym (length-map tree.channels (ends_of tree))) at in
        ap (λ xs. unwrap_or (slice_get xs c) 0) et ∙ taken_here (nat_eq d c) d c s.taken there.0 refl there.1
        ∙ ap (λ n. taken_on s c + n) (sym (receipt_takes (wants_first tree s.items) message d c v w m));
    kept = ek;
  }
