-- Before the first turn a process of a resolved tree and one of code that stands for the tree stand together: its whole text is left, and
-- all its words are 0.
use Rattle.std.proofs.Common.{◌≡◌, ◌≤◌, ◌+◌, ℕ, ℤ, pos, zero, suc, false, List, [], ◌∷◌, ◌++◌, length, replicate, slice_get, unwrap_or, Some, None, refl, sym, ap, ◌∙◌, subst, arith, append-nil}
use Rattle.std.specs.List.{All}
use Rattle.std.proofs.lemmas.List.{length-replicate, replicate-append-replicate}
use Rattle.std.proofs.lemmas.List.Elements.{All-get_or}
use Rattle.std.proofs.lemmas.Option.{slice_get-get_or, slice_get_within}
use Rattle.rb_base.specs.Limits.{most_words}
use Rattle.rb_syntax.specs.Tree.{Commands, NoCommand, Then, ProcessDeclaration, Tree}
use Rattle.rb_world.proofs.ListFacts.{none_some, some_same}
use Rattle.rb_meaning.specs.Environment.{Environment, frame_of, words}
use Rattle.rb_meaning.specs.State.{State, performed, settle, settle_items, with_settled}
use Rattle.rb_meaning.specs.Groups.{procedures_of}
use Rattle.rb_meaning.specs.Meaning.{opening_state}
use Rattle.rb_meaning.proofs.Trees.TreeErasure.{none_taken}
use Rattle.rb_scope.specs.Frames.{main_frames, shape_of, shape_words}
use Rattle.rb_scope.specs.InFrames.{CommandsInFrames, Resolved}
use Rattle.rb_scope.specs.Limits.{IsWithinLimits, ProcessWithin}
use Rattle.rb_scope.specs.declared.slot.Slot.{Slot}
use Rattle.rb_code.specs.Instructions.Plain.{Code, Part}
use Rattle.rb_code.specs.WordMachine.Workspace.{body_place, no_part, part_of, variables_place, word_at}
use Rattle.rb_code.specs.Agreement.Forms.{Owner}
use Rattle.rb_code.specs.Agreement.StandsFor.{ProcessesForm, StandsFor}
use Rattle.rb_code.specs.WordMachine.Turn.{Standing, settle as settles}
use Rattle.rb_code.specs.WordMachine.WordRun.{opening_standing}
use Rattle.rb_code.proofs.Agreeing.Placed.{CommandsPlaced, ProcessPlaced, TurnAt}
use Rattle.rb_code.proofs.Placing.PlacedCode.{all_placed}
use Rattle.rb_code.proofs.Agreeing.BlocksBegin.{commands_left}
use Rattle.rb_code.proofs.InWords.Environments.{words_of_frame}
use Rattle.rb_code.proofs.InWords.LaidOut.{Laid, flat_frame}
use Rattle.rb_code.proofs.Agreeing.TextLeft.{IsSettled, Left, frames_at, owner_of, variables_of_process}
use Rattle.rb_code.proofs.InWords.VariablesInWords.{frame_long}
use Rattle.rb_code.proofs.Agreeing.StatesMeet.{Meets, WordsMeet}
use Rattle.rb_code.proofs.InWords.FramesPushed.{zeros_flat}
use Rattle.rb_code.proofs.WholeRuns.MachineSteps.{settle_at_rest}
use Rattle.rb_code.proofs.WholeRuns.OwnMail.{none_sent, opening_mail}
use Rattle.rb_code.proofs.WholeRuns.PointsLie.{none_left}
use Rattle.rb_code.proofs.WholeRuns.StandTogether.{StandTogether, Uprightness, Whole}
use Rattle.rb_code.proofs.WholeRuns.WordsOfStates.{left_at_rest}

-- the element of a list of which each keeps this
pub all_there : {A : Type 0} (P : A → Type 0) (xs : List A) (i : ℕ) (x : A) → All P xs → slice_get xs i ≡ Some x → P x
all_there P xs i x all e =
    let within = slice_get_within xs i x e in
    subst P (some_same (sym (slice_get-get_or xs i x within) ∙ e)) (All-get_or P xs i x within all)

-- zeros
pub zero_there : (n k : ℕ) → word_at (replicate n (pos 0)) k ≡ pos 0
zero_there zero k = refl
zero_there (suc n) zero = refl
zero_there (suc n) (suc k) = zero_there n k

-- the code of a process, where the list of processes stands, with the places of its turns
pub record StandsAt (tree : Tree) (slots : List Slot) (c : Code) (p : ℕ) (process : ProcessDeclaration) (part : Part) : Type 0 where
  pub from : ℕ
  pub to : ℕ
  pub code : ProcessPlaced tree slots p process part c from to

stands_among : (tree : Tree) (slots : List Slot) (c : Code) (p n r a b : ℕ) (processes : List ProcessDeclaration)
    (parts : List Part) (process : ProcessDeclaration) (part : Part)
    → ProcessesForm (TurnAt tree) tree slots p processes parts c a b → n ≡ p + r → slice_get processes r ≡ Some process → slice_get parts r ≡ Some part
    → StandsAt tree slots c n process part
stands_among tree slots c p n r a b [] parts process part code same e f = absurd (none_some e)
stands_among tree slots c p n zero a b (one ∷ processes) parts process part (first, more, is, (m, code, others)) same e f =
    let here : first ≡ part = some_same (ap (λ (list : List Part). slice_get list 0) (sym is) ∙ f) in
    let at : p ≡ n = omega (arith, same) in
    subst (λ (k : ℕ). StandsAt tree slots c k process part) at
    (subst (λ (x : ProcessDeclaration). StandsAt tree slots c p x part) (some_same e)
    (subst (λ (y : Part). StandsAt tree slots c p one y) here (record { from = a; to = m; code = code })))
stands_among tree slots c p n (suc r) a b (one ∷ processes) parts process part (first, more, is, (m, code, others)) same e f =
    stands_among tree slots c (p + 1) n r m b processes more process part others (omega (arith, same)) e
    (ap (λ (list : List Part). slice_get list (suc r)) (sym is) ∙ f)

pub stands_at : (tree : Tree) (slots : List Slot) (c : Code) → StandsFor tree slots c → (p : ℕ) (process : ProcessDeclaration) (part : Part)
    → slice_get tree.processes p ≡ Some process → slice_get c.processes p ≡ Some part → StandsAt tree slots c p process part
stands_at tree slots c stands p process part e f =
    stands_among tree slots c 0 p p 0 (length c.instrs) tree.processes c.processes process part (all_placed tree slots c stands) (omega arith) e f

-- statements alone have settled
performed_settled : (commands : Commands) → IsSettled (performed commands [])
performed_settled NoCommand = tt
performed_settled (Then first rest) = tt

settled_already : (commands : Commands) (env : Environment) → settle_items (performed commands []) env ≡ (performed commands [], env)
settled_already NoCommand env = refl
settled_already (Then first rest) env = refl

module _ (tree : Tree) (slots : List Slot) (c : Code) (stands : StandsFor tree slots c) (resolved : Resolved tree slots)
    (limits : IsWithinLimits tree)
    (p : ℕ) (process : ProcessDeclaration) (part : Part) (there : slice_get tree.processes p ≡ Some process)
    (part_there : slice_get c.processes p ≡ Some part) where
  at : StandsAt tree slots c p process part
  at = stands_at tree slots c stands p process part there part_there

  part_is : part_of c p ≡ part
  part_is = ap (λ o. unwrap_or o no_part) part_there

  abbrev opened : State
  opened = opening_state tree p process

  abbrev standing : Standing
  standing = opening_standing p part

  -- its whole text is left
  owner_is : owner_of tree p ≡ record { number = p; procedures = process.procedures }
  owner_is = ap (λ o. let one : Owner = record { number = p; procedures = procedures_of o } in one) there

  frames_are : frames_at tree p [] ≡ main_frames process
  frames_are = ap (λ o. record (main_frames process) { globals = shape_of (frame_of (variables_of_process o)) }) there

  text_left : Left tree slots c p ([] ∷ []) (performed process.commands []) [] part.start
  text_left =
      let code = at.code in
      let body = code.1 in
      let commands = subst (λ (owner : Owner). CommandsPlaced tree slots owner process.commands c at.from body.0) (sym owner_is) body.1 in
      let inside =
      subst (λ frames. CommandsInFrames tree slots p frames process.commands) (sym frames_are)
      (resolved.processes p process there).commands in
      subst (λ (a : ℕ). Left tree slots c p ([] ∷ []) (performed process.commands []) [] a) (sym code.0.start_is)
      (commands_left tree slots c p process.commands [] ([] ∷ []) [] at.from body.0 commands inside (body.2.1.0, refl))

  -- its words
  globals_long : shape_words (shape_of (frame_of process.variables)) ≡ part.words
  globals_long = sym (frame_long (frame_of process.variables)) ∙ words_of_frame (frame_of process.variables) ∙ sym at.code.0.words_are

  words_lie : Laid part (replicate (variables_place part) (pos 0)) opened.environment standing.words []
  words_lie = record {
    long = length-replicate (variables_place part) (pos 0);
    is = sym (replicate-append-replicate (variables_place part) part.words (pos 0))
        ∙ ap (λ (n : ℕ). replicate (variables_place part) (pos 0) ++ replicate n (pos 0)) at.code.0.words_are
        ∙ ap (λ (ws : List ℤ). replicate (variables_place part) (pos 0) ++ ws)
        (sym (zeros_flat process.variables) ∙ sym (append-nil (flat_frame (frame_of process.variables))));
    globals = globals_long;
    based = tt;
  }

  few_words : words opened.environment ≤ most_words c.edition
  few_words =
      let within : ProcessWithin tree.edition process = all_there (ProcessWithin tree.edition) tree.processes p process limits.processes there in
      subst (λ edition. words opened.environment ≤ most_words edition) (sym stands.edition_is) (omega (arith, within.words))

  words_begin : WordsMeet tree c p opened standing.words []
  words_begin = record {
    front = replicate (variables_place part) (pos 0);
    laid = subst (λ (one : Part). Laid one (replicate (variables_place part) (pos 0)) opened.environment standing.words []) (sym part_is) words_lie;
    globals = ap (λ o. shape_of (frame_of (variables_of_process o))) (sym there);
    few = few_words;
    held = zero_there (body_place part) 0;
    sent = λ channel ends declared own. zero_there (body_place part) _ ∙ ap pos (sym (none_sent (length tree.channels) channel));
    taken = λ channel ends declared own. zero_there (body_place part) _ ∙ ap pos (sym (none_taken (length tree.channels) channel));
  }

  begins : Meets tree slots c p opened part.start standing.words []
  begins = record { words_meet = words_begin; left = text_left }

  -- it is at rest, so that nothing settles
  pub rests_first : settles c None standing ≡ standing
  rests_first = settle_at_rest c None standing
      (left_at_rest tree slots c p ([] ∷ []) (performed process.commands []) [] part.start text_left (performed_settled process.commands))

  settled_first : settle opened ≡ opened
  settled_first = ap (with_settled opened) (settled_already process.commands opened.environment)

  pub begins_together : (upright : Uprightness) → upright false [] (settles c None standing)
      → StandTogether tree slots c upright false [] (settle opened) [] (settles c None standing)
  begins_together upright up =
      subst (λ (s : State). StandTogether tree slots c upright false [] s [] (settles c None standing)) (sym settled_first)
      (subst (λ (u : Standing). StandTogether tree slots c upright false [] opened [] u) (sym rests_first) (record {
        process = refl;
        meets = begins;
        settled = λ _. performed_settled process.commands;
        mail = opening_mail tree c stands.channels_are p process;
        copies = tt;
        points = tt;
        stands = Whole (none_left process.commands ([] ∷ [])) (subst (λ (u : Standing). upright false [] u) rests_first up);
      }))

  pub begins_empty : (settles c None standing).held ≡ []
  begins_empty = ap (λ (u : Standing). u.held) rests_first
