-- What a session keeps, before its first turn, behind a turn more, and at another position.
use Rattle.std.proofs.Common.{◌≡◌, ◌≤◌, ◌<◌, ◌+◌, ◌-◌, ◌^◌, ℕ, zero, suc, ℤ, pos, true, false, List, [], ◌∷◌, ◌++◌, length, map, take, drop, replicate, slice_get, slice_index_or, slice_range, get_or, nat_lt, option_map, unwrap_or, sum_by, count_by, Option, Some, None, refl, sym, ap, ◌∙◌, subst, subst₂, arith}
use Rattle.std.proofs.lemmas.List.{drop-append-le, length-append, length-drop, length-map, map-append, take-append-le, take_all}
use Rattle.std.proofs.lemmas.Option.{slice_get-map, slice_get_within}
use Rattle.std.proofs.Math.Seq.{drop-append_seam}
use Rattle.rb_base.specs.Lines.{belonging}
use Rattle.rb_base.specs.declared.event.TurnKind.TheVariants.{Undone}
use Rattle.rb_world.specs.Kind.{Kind, Membership}
use Rattle.rb_world.specs.Standing.{Each}
use Rattle.rb_world.specs.Turn.{Told, run, turn}
use Rattle.rb_world.specs.World.{Process, World}
use Rattle.rb_world.proofs.Keeping.StandingFacts.{run-size}
use Rattle.rb_world.proofs.ListFacts.{some_same}
use Rattle.rb_code.specs.Instructions.Plain.{Code}
use Rattle.rb_code.specs.WordMachine.Turn.{Common, Copy, Standing}
use Rattle.rb_code.specs.WordMachine.WordKind.{word_kind}
use Rattle.rb_code.specs.WordMachine.WordRun.{WordWorld, opening_of, variable_words, word_run}
use Rattle.rb_recovery.specs.Known.{IsSoundFor}
use Rattle.rb_machine.specs.Machine.{HasTurned, Seen, opening_seen, turned}
use Rattle.rb_recovery.specs.Reading.{states_of, variables_of}
use Rattle.rb_run.proofs.TurnsTaken.{after_turn, is_after}
use Rattle.rb_run.proofs.TurnsUnseen.{none_waiting, rest_same}
use Rattle.rb_back.specs.declared.session.Turn.{Turn}
use Rattle.rb_back.specs.declared.stores.Stores.{Stores}
use Rattle.rb_back.specs.declared.view.Change.{Change}
use Rattle.rb_back.specs.Course.{Course, changed_words}
use Rattle.rb_back.specs.Journal.{AreNoted, IsKept, course_of, IsNoted, machine_behind, picture_after, processes_of, words_of}
use Rattle.rb_back.specs.Noting.{AreAlike, Notes, OthersAreSame, changed, differing}
use Rattle.rb_back.specs.Others.{all_keep_others}
use Rattle.rb_back.specs.Picture.{Picture, is_word, redone_all, undone_all}
use Rattle.std.proofs.lemmas.Bool.Decides.{nat_tests}
use Rattle.rb_back.proofs.Noted.{same_zero, there_is}
use Rattle.rb_back.specs.Stores.{AreAllIn, AreRanges, AreSameBut, IsIn}
use Rattle.rb_back.proofs.Alike.{own_within}
use Rattle.rb_back.proofs.OthersStay.{none_passed, others_stay, passes_keep, past_end}
use Rattle.rb_back.proofs.Storing.TurnStores.{stores_stay}
use Rattle.rb_back.proofs.Sizes.{few_words, run_all_words, run_processes, run_states, run_words}

-- a run of one turn more
pub run_last : {S C M : Type 0} (k : Kind S C M) (t p : ℕ) (turns : List ℕ) (w : World S C M)
    → (run k t (turns ++ p ∷ []) w).0 ≡ (turn k (t + length turns) p (run k t turns w).0).0
run_last k t p [] w = ap (λ n. (turn k n p w).0) {x = t} {y = t + 0} (omega arith)
run_last k t p (q ∷ turns) w =
    run_last k (t + 1) p turns (turn k t q w).0
    ∙ ap (λ n. (turn k n p (run k (t + 1) turns (turn k t q w).0).0).0) {x = t + 1 + length turns} {y = t + suc (length turns)} (omega arith)

pub word_run_last : (c : Code) (groups : List Membership) (turns : List ℕ) (p : ℕ)
    → (word_run c groups (turns ++ p ∷ [])).0 ≡ (turn (word_kind c groups) (length turns + 1) p (word_run c groups turns).0).0
word_run_last c groups turns p =
    run_last (word_kind c groups) 1 p turns (opening_of c groups)
    ∙ ap (λ n. (turn (word_kind c groups) n p (word_run c groups turns).0).0) {x = 1 + length turns} {y = length turns + 1} (omega arith)

-- what a machine shows behind some turns
pub shown_behind : (m : Seen) (ran : List ℕ) → m ≡ machine_behind m.code m.groups m.most ran → (shown : Picture)
    → shown ≡ record { states = states_of m.world.processes; words = variables_of m.code m.world.processes }
    → shown ≡ picture_after m.code m.groups ran
shown_behind m ran stands shown e =
    e ∙ ap (λ (x : Seen). record { states = states_of x.world.processes; words = variables_of m.code x.world.processes }) stands

-- The machine behind some turns, and behind one more.
module _ (m : Seen) (ran : List ℕ) (stands : m ≡ machine_behind m.code m.groups m.most ran) where
  pub none_waits : m.waiting ≡ replicate (length m.world.processes) []
  none_waits =
      ap (λ (x : Seen). x.waiting) stands
      ∙ ap (λ n. replicate n []) (sym (run_processes m.code m.groups ran) ∙ ap (λ (x : Seen). length x.world.processes) (sym stands))

  pub world_is : m.world ≡ (word_run m.code m.groups ran).0
  world_is = ap (λ (x : Seen). x.world) stands

  pub taken_is : m.taken ≡ length ran
  taken_is = ap (λ (x : Seen). x.taken) stands

  module _ (turning now : Seen) (p : ℕ) (told : Told) (h : HasTurned m p turning told)
      (dropped : now ≡ record turning { waiting = replicate (length turning.waiting) [] }) where
    after : now ≡ after_turn m p
    after =
        is_after m turning now p told h none_waits (none_waiting m turning now p told h none_waits dropped)
        (rest_same m turning now p told h none_waits dropped)

    pub code_same : now.code ≡ m.code
    code_same = ap (λ (x : Seen). x.code) after

    pub groups_same : now.groups ≡ m.groups
    groups_same = ap (λ (x : Seen). x.groups) after

    pub most_same : now.most ≡ m.most
    most_same = ap (λ (x : Seen). x.most) after

    turned_is : turned m p ≡ turn (word_kind m.code m.groups) (length ran + 1) p (word_run m.code m.groups ran).0
    turned_is = λ i. turn (word_kind m.code m.groups) (taken_is i + 1) p (world_is i)

    pub stands_on : now ≡ machine_behind m.code m.groups m.most (ran ++ p ∷ [])
    stands_on =
        let world : (turned m p).0 ≡ (word_run m.code m.groups (ran ++ p ∷ [])).0 =
        ap (λ (end : WordWorld × Told). end.0) turned_is ∙ sym (word_run_last m.code m.groups ran p) in
        let waiting : m.waiting ≡ replicate (length m.code.processes) [] = ap (λ (x : Seen). x.waiting) stands in
        let keeps : m.keeps ≡ false = ap (λ (x : Seen). x.keeps) stands in
        let taken : m.taken + 1 ≡ length (ran ++ p ∷ []) = omega (arith, taken_is, length-append ran (p ∷ [])) in
        after
        ∙ (λ i. record {
          code = m.code;
          groups = m.groups;
          world = world i;
          waiting = waiting i;
          keeps = keeps i;
          taken = taken i;
          most = m.most;
        })

    pub stands_again : now ≡ machine_behind now.code now.groups now.most (ran ++ p ∷ [])
    stands_again = stands_on ∙ (λ i. machine_behind (sym code_same i) (sym groups_same i) (sym most_same i) (ran ++ p ∷ []))

    -- what the machine shows then
    pub shown_then : (shown : Picture)
        → shown ≡ record { states = states_of now.world.processes; words = variables_of now.code now.world.processes }
        → shown ≡ picture_after m.code m.groups (ran ++ p ∷ [])
    shown_then shown e =
        shown_behind now (ran ++ p ∷ []) stands_again shown e ∙ (λ i. picture_after (code_same i) (groups_same i) (ran ++ p ∷ []))

    -- a turn that tells of no other leaves the words of others alone
    pub others_same : IsSoundFor m.code m.groups → all_keep_others told.events ≡ true
        → OthersAreSame p (picture_after m.code m.groups ran).words (picture_after m.code m.groups (ran ++ p ∷ [])).words
    others_same (counts, sound) keep r other =
        let own : Process Standing Copy → List ℤ = λ q. variable_words m.code q.state in
        let told_so : all_keep_others (turn (word_kind m.code m.groups) (length ran + 1) p (word_run m.code m.groups ran).0).1.events ≡ true =
        ap (λ (end : WordWorld × Told). all_keep_others end.1.events) (sym turned_is)
        ∙ (ap (λ (one : Told). all_keep_others one.events) (sym h.told_is) ∙ keep) in
        let same = others_stay m.code m.groups counts sound ran p told_so r other in
        ap (λ (o : Option (List ℤ)). unwrap_or o []) (
        slice_get-map own (word_run m.code m.groups ran).0.processes r
        ∙ ap (option_map own) (sym same)
        ∙ ap (λ (w : WordWorld). option_map own (slice_get w.processes r)) (sym (word_run_last m.code m.groups ran p))
        ∙ sym (slice_get-map own (word_run m.code m.groups (ran ++ p ∷ [])).0.processes r))

    -- a turn that takes nothing back either leaves alone what its address doesn't store
    pub stores_same : IsSoundFor m.code m.groups → (ranges : List Stores) → AreRanges m.code ranges → all_keep_others told.events ≡ true
        → (told.kind ≡ Undone → ⊥) → (q : Process Standing Copy) → slice_get m.world.processes p ≡ Some q
        → AreSameBut (slice_get ranges q.state.at) (belonging (picture_after m.code m.groups ran).words p)
        (belonging (picture_after m.code m.groups (ran ++ p ∷ [])).words p)
    stores_same (counts, sound) ranges are keep other q there = by (slice_get (turn Words (length ran + 1) p before).0.processes p) refl
      where
        Words : Kind Standing Copy Common
        Words = word_kind m.code m.groups

        before : WordWorld
        before = (word_run m.code m.groups ran).0

        told_so : told ≡ (turn Words (length ran + 1) p before).1
        told_so = h.told_is ∙ ap (λ (end : WordWorld × Told). end.1) turned_is

        here : slice_get before.processes p ≡ Some q
        here = ap (λ (w : WordWorld). slice_get w.processes p) (sym world_is) ∙ there

        own : (w : WordWorld) (r : Process Standing Copy) → slice_get w.processes p ≡ Some r
            → variable_words m.code r.state ≡ belonging (variables_of m.code w.processes) p
        own w r e =
            sym (ap (λ (o : Option (List ℤ)). unwrap_or o [])
            (slice_get-map (λ (x : Process Standing Copy). variable_words m.code x.state) w.processes p
            ∙ ap (option_map (λ (x : Process Standing Copy). variable_words m.code x.state)) e))

        by : (o : Option (Process Standing Copy)) → slice_get (turn Words (length ran + 1) p before).0.processes p ≡ o
            → AreSameBut (slice_get ranges q.state.at) (belonging (picture_after m.code m.groups ran).words p)
            (belonging (picture_after m.code m.groups (ran ++ p ∷ [])).words p)
        by None e = absurd (omega (
          arith,
          slice_get_within before.processes p q here,
          past_end (turn Words (length ran + 1) p before).0.processes p e,
          (run-size Words (length ran + 1) (p ∷ []) before).of_processes,
        ))
        by (Some r) e =
            let after = word_run_last m.code m.groups ran p in
            subst₂ (AreSameBut (slice_get ranges q.state.at)) (own before q here)
            (own (word_run m.code m.groups (ran ++ p ∷ [])).0 r (ap (λ (w : WordWorld). slice_get w.processes p) after ∙ e))
            (stores_stay m.code m.groups counts sound ranges are ran p q r here e
            (λ undone. other (ap (λ (one : Told). one.kind) told_so ∙ undone))
            (none_passed m.code m.groups counts sound ran p
            (passes_keep m.code m.groups counts sound ran p (ap (λ (one : Told). all_keep_others one.events) (sym told_so) ∙ keep))))

-- what is shown behind two lists of turns has the same sizes
pub states_alike : (c : Code) (groups : List Membership) (one other : List ℕ)
    → length (picture_after c groups one).states ≡ length (picture_after c groups other).states
states_alike c groups one other = run_states c groups one ∙ sym (run_states c groups other)

pub words_alike : (c : Code) (groups : List Membership) → IsSoundFor c groups → (one other : List ℕ)
    → AreAlike (picture_after c groups one).words (picture_after c groups other).words
words_alike c groups (counts, sound) one other = run_words c groups counts sound one ∙ sym (run_words c groups counts sound other)

pub all_numbered : (c : Code) (groups : List Membership) → IsSoundFor c groups → (ran : List ℕ)
    → length (picture_after c groups ran).states + length (picture_after c groups ran).words < 2 ^ 32
all_numbered c groups (counts, sound) ran = omega (
  arith,
  run_states c groups ran,
  run_processes c groups ran,
  length-map (word_run c groups ran).0.processes (λ (q : Process Standing Copy). variable_words c q.state),
  few_words c groups counts sound,
)

pub all_changes : (c : Code) (groups : List Membership) → IsSoundFor c groups → (ran : List ℕ)
    → length (picture_after c groups ran).states + sum_by length (picture_after c groups ran).words ≡ length c.processes + words_of c
all_changes c groups (counts, sound) ran = omega (arith, run_states c groups ran, run_all_words c groups counts sound ran)

few_changes : (c : Code) (groups : List Membership) → IsSoundFor c groups → length c.processes + words_of c < 2 ^ 20
few_changes c groups (counts, sound) = few_words c groups counts sound

-- who has a word is there
within_own : (lists : List (List ℤ)) (p k : ℕ) → k < length (belonging lists p) → p < length lists
within_own [] p k less = absurd (omega arith)
within_own (words ∷ lists) zero k less = omega arith
within_own (words ∷ lists) (suc p) k less = omega (arith, within_own lists p k less)

-- parts of longer lists
range_front : {A : Type 0} (xs ys : List A) (from to : ℕ) → from ≤ to → to ≤ length xs → slice_range (xs ++ ys) from to ≡ slice_range xs from to
range_front {A} xs ys from to less within =
    ap (take (to - from)) (drop-append-le from xs ys (omega arith))
    ∙ take-append-le (to - from) (drop from xs) ys (omega (arith, length-drop from xs))

range_back : {A : Type 0} (xs ys : List A) → slice_range (xs ++ ys) (length xs) (length (xs ++ ys)) ≡ ys
range_back xs ys =
    ap (take (length (xs ++ ys) - length xs)) (drop-append_seam xs ys)
    ∙ take_all (length (xs ++ ys) - length xs) ys (omega (arith, length-append xs ys))

each_more : {A : Type 0} (P Q : ℕ → A → Type 0) (xs : List A) (x : A) → Each P xs
    → ((r : ℕ) (y : A) → slice_get xs r ≡ Some y → P r y → Q r y) → Q (length xs) x → Each Q (xs ++ x ∷ [])
each_more P Q [] x each more last zero y e = subst (Q 0) (some_same e) last
each_more P Q [] x each more last (suc r) y e = absurd (cc)
each_more P Q (z ∷ xs) x each more last zero y e = subst (Q 0) (some_same e) (more 0 z refl (each 0 z refl))
each_more {A} P Q (z ∷ xs) x each more last (suc r) y e =
    each_more (λ n. P (suc n)) (λ n. Q (suc n)) xs x (λ n. each (suc n)) (λ n. more (suc n)) last r y e

-- the processes of one turn more
processes_more : (turns : List Turn) (turn : Turn) → processes_of (turns ++ turn ∷ []) ≡ processes_of turns ++ turn.process ∷ []
processes_more turns turn = map-append (λ (one : Turn). one.process) turns (turn ∷ [])

pub processes_long : (turns : List Turn) → length (processes_of turns) ≡ length turns
processes_long turns = length-map turns (λ (one : Turn). one.process)

front_same : (turns : List Turn) (turn : Turn) (n : ℕ) → n ≤ length turns → take n (processes_of (turns ++ turn ∷ [])) ≡ take n (processes_of turns)
front_same turns turn n less =
    ap (take n) (processes_more turns turn)
    ∙ take-append-le n (processes_of turns) (turn.process ∷ []) (omega (arith, processes_long turns))

-- a turn is noted still once more changes stand behind its own
noted_still : (changes more : List Change) (turn : Turn) (before after : Picture) → IsNoted changes turn before after
    → IsNoted (changes ++ more) turn before after
noted_still changes more turn before after h =
    let same : slice_range (changes ++ more) turn.from turn.to ≡ slice_range changes turn.from turn.to =
    range_front changes more turn.from turn.to h.ordered h.within in
    record {
      ordered = h.ordered;
      within = omega (arith, h.within, length-append changes more);
      forth = ap (λ (cs : List Change). redone_all cs before) same ∙ h.forth;
      back = ap (λ (cs : List Change). undone_all cs after) same ∙ h.back;
      few = omega (arith, ap (count_by is_word) same, h.few);
    }

-- words that are to be shown are shown
none_differ : (words : List ℤ) → differing words words ≡ 0
none_differ [] = refl
none_differ (x ∷ words) = omega (arith, same_zero x, none_differ words)

none_changed : (lists : List (List ℤ)) → changed lists lists ≡ 0
none_changed [] = refl
none_changed (words ∷ others) = omega (arith, none_differ words, none_changed others)

-- a turn that was just noted
noted_last : (changes later : List Change) (turn : Turn) (before after : Picture) → Notes after.words changes later before after
    → turn.from ≡ length changes → turn.to ≡ length later → IsNoted later turn before after
noted_last changes later turn before after h from to =
    let same : slice_range later turn.from turn.to ≡ h.noted =
    (λ i. slice_range (h.joined i) (from i) ((to ∙ ap length h.joined) i)) ∙ range_back changes h.noted in
    record {
      ordered = omega (arith, from, to, ap length h.joined, length-append changes h.noted);
      within = omega (arith, to);
      forth = ap (λ (cs : List Change). redone_all cs before) same ∙ h.forth;
      back = ap (λ (cs : List Change). undone_all cs after) same ∙ h.back;
      few = omega (arith, ap (count_by is_word) same, h.few, none_changed after.words);
    }

-- one turn more is kept
pub kept_more : (m turning now : Seen) (shown later : Picture) (turns : List Turn) (turn : Turn) (room more : ℕ) (changes after : List Change)
    (most_changed position : ℕ) (told : Told) → IsKept m shown turns room changes most_changed position → position ≡ length turns
    → length turns < m.most → HasTurned m turn.process turning told
    → now ≡ record turning { waiting = replicate (length turning.waiting) [] }
    → later ≡ record { states = states_of now.world.processes; words = variables_of now.code now.world.processes }
    → Notes (variables_of now.code now.world.processes) changes after shown later
    → turn.from ≡ length changes → turn.to ≡ length after → room ≤ more
    → IsKept now later (turns ++ turn ∷ []) more after most_changed (position + 1)
kept_more m turning now shown later turns turn room more changes after most_changed position told kept last few h dropped is notes from to roomy =
    let ran = processes_of turns in
    let p = turn.process in
    let code = code_same m ran kept.stands turning now p told h dropped in
    let groups = groups_same m ran kept.stands turning now p told h dropped in
    let most = most_same m ran kept.stands turning now p told h dropped in
    let again : now ≡ machine_behind now.code now.groups now.most (processes_of (turns ++ turn ∷ [])) =
    stands_again m ran kept.stands turning now p told h dropped ∙ ap (machine_behind now.code now.groups now.most) (sym (processes_more turns turn)) in
    let before : shown ≡ picture_after m.code m.groups ran =
    kept.shows
    ∙ ap (λ (one : List ℕ). picture_after m.code m.groups one) (take_all position ran (omega (arith, last, processes_long turns))) in
    let then : later ≡ picture_after m.code m.groups (ran ++ p ∷ []) = shown_then m ran kept.stands turning now p told h dropped later is in
    let one : IsNoted after turn shown later =
    noted_last changes after turn shown later
    (subst (λ (words : List (List ℤ)). Notes words changes after shown later) (sym (ap (λ (picture : Picture). picture.words) is)) notes) from to in
    let all : (n : ℕ) → n ≡ length turns + 1 → take n (processes_of (turns ++ turn ∷ [])) ≡ ran ++ p ∷ [] = λ n e.
    ap (take n) (processes_more turns turn)
    ∙ take_all n (ran ++ p ∷ []) (omega (arith, e, length-append ran (p ∷ []), processes_long turns)) in
    let noted : AreNoted m.code m.groups (turns ++ turn ∷ []) after =
    each_more _ _ turns turn kept.noted
    (λ r one e noted.
    let within = slice_get_within turns r one e in
    (let P : List ℕ → List ℕ → Type 0 = λ xs ys. IsNoted after one (picture_after m.code m.groups xs) (picture_after m.code m.groups ys) in
    subst₂ P (sym (front_same turns turn r (omega arith))) (sym (front_same turns turn (r + 1) (omega arith)))
    (subst (λ (cs : List Change). IsNoted cs one (picture_after m.code m.groups (take r ran)) (picture_after m.code m.groups (take (r + 1) ran)))
    (sym notes.joined) (noted_still changes notes.noted one _ _ noted))))
    (subst₂ (λ (v w : Picture). IsNoted after turn v w)
    (before ∙ ap (picture_after m.code m.groups) (sym (front_same turns turn (length turns) (omega arith) ∙ take_all (length turns) ran (omega (arith, processes_long turns)))))
    (then ∙ ap (picture_after m.code m.groups) (sym (all (length turns + 1) refl))) one) in
    record {
      sound = subst₂ IsSoundFor (sym code) (sym groups) kept.sound;
      stands = again;
      within = omega (arith, last, length-append turns (turn ∷ []));
      few = omega (arith, most, few, length-append turns (turn ∷ []));
      most_few = omega (arith, most, kept.most_few);
      room = omega (arith, most, kept.room, roomy);
      shows = then ∙ (λ i. picture_after (sym code i) (sym groups i) (sym (all (position + 1) (omega (arith, last))) i));
      noted = subst₂ (λ (c : Code) (g : List Membership). AreNoted c g (turns ++ turn ∷ []) after) (sym code) (sym groups) noted;
      most_changes = kept.most_changes ∙ ap (λ (c : Code). length c.processes + words_of c) (sym code);
    }

-- before the first turn
pub kept_first : (m : Seen) (c : Code) (groups : List Membership) (most : ℕ) (shown : Picture) (room most_changed : ℕ) → IsSoundFor c groups
    → m ≡ opening_seen c groups false most → most < 2 ^ 32 - 1 → most ≤ room
    → shown ≡ record { states = states_of m.world.processes; words = variables_of m.code m.world.processes }
    → most_changed ≡ length c.processes + words_of c → IsKept m shown [] room [] most_changed 0
kept_first m c groups most shown room most_changed sound is few roomy shows changes =
    let code : m.code ≡ c = ap (λ (x : Seen). x.code) is in
    let same : m.groups ≡ groups = ap (λ (x : Seen). x.groups) is in
    let most_is : m.most ≡ most = ap (λ (x : Seen). x.most) is in
    let stands : m ≡ machine_behind m.code m.groups m.most [] = is ∙ (λ i. machine_behind (sym code i) (sym same i) (sym most_is i) []) in
    record {
      sound = subst₂ IsSoundFor (sym code) (sym same) sound;
      stands = stands;
      within = omega arith;
      few = omega arith;
      most_few = omega (arith, most_is, few);
      room = omega (arith, most_is, roomy);
      shows = shown_behind m [] stands shown shows;
      noted = λ r one e. absurd (let none : None ≡ Some one = e in cc);
      most_changes = changes ∙ ap (λ (x : Code). length x.processes + words_of x) (sym code);
    }

-- one turn forth or back among those that are noted
module _ (m : Seen) (shown : Picture) (turns : List Turn) (room : ℕ) (changes : List Change) (most_changed position : ℕ)
    (kept : IsKept m shown turns room changes most_changed position) where
  moved : (later : Picture) (to : ℕ) → to ≤ length turns → later ≡ picture_after m.code m.groups (take to (processes_of turns))
      → IsKept m later turns room changes most_changed to
  moved later to within is = record {
    sound = kept.sound;
    stands = kept.stands;
    within = within;
    few = kept.few;
    most_few = kept.most_few;
    room = kept.room;
    shows = is;
    noted = kept.noted;
    most_changes = kept.most_changes;
  }

  pub kept_forth : (turn : Turn) (later : Picture) → slice_get turns position ≡ Some turn
      → later ≡ redone_all (slice_range changes turn.from turn.to) shown → IsKept m later turns room changes most_changed (position + 1)
  kept_forth turn later there is =
      moved later (position + 1) (let within = slice_get_within turns position turn there in omega arith)
      (is ∙ ap (redone_all (slice_range changes turn.from turn.to)) kept.shows ∙ (kept.noted position turn there).forth)

  pub kept_back : (turn : Turn) (later : Picture) (to : ℕ) → position ≡ to + 1 → slice_get turns to ≡ Some turn
      → later ≡ undone_all (slice_range changes turn.from turn.to) shown → IsKept m later turns room changes most_changed to
  kept_back turn later to behind there is =
      moved later to (let within = slice_get_within turns to turn there in omega arith)
      (is
      ∙ ap (undone_all (slice_range changes turn.from turn.to))
      (kept.shows ∙ ap (λ n. picture_after m.code m.groups (take n (processes_of turns))) behind)
      ∙ (kept.noted to turn there).back)

-- What is asked where a turn of the machine is noted.
module _ (m turning now : Seen) (shown : Picture) (turns : List Turn) (room : ℕ) (changes : List Change) (most_changed position p : ℕ)
    (told : Told) (kept : IsKept m shown turns room changes most_changed position) (last : position ≡ length turns)
    (h : HasTurned m p turning told) (dropped : now ≡ record turning { waiting = replicate (length turning.waiting) [] }) where
  abbrev so_far : List ℕ
  so_far = processes_of turns

  before_is : shown ≡ picture_after m.code m.groups so_far
  before_is =
      kept.shows ∙ ap (λ (one : List ℕ). picture_after m.code m.groups one) (take_all position so_far (omega (arith, last, processes_long turns)))

  abbrev after_is : Picture
  after_is = record { states = states_of now.world.processes; words = variables_of now.code now.world.processes }

  then_is : after_is ≡ picture_after m.code m.groups (so_far ++ p ∷ [])
  then_is = shown_then m so_far kept.stands turning now p told h dropped after_is refl

  pub asked_states : length shown.states ≡ length after_is.states
  asked_states =
      ap (λ (one : Picture). length one.states) before_is ∙ states_alike m.code m.groups so_far (so_far ++ p ∷ [])
      ∙ sym (ap (λ (one : Picture). length one.states) then_is)

  pub asked_words : AreAlike shown.words after_is.words
  asked_words =
      ap (λ (one : Picture). map length one.words) before_is ∙ words_alike m.code m.groups kept.sound so_far (so_far ++ p ∷ [])
      ∙ sym (ap (λ (one : Picture). map length one.words) then_is)

  pub asked_numbered : length after_is.states + length after_is.words < 2 ^ 32
  asked_numbered =
      subst (λ (one : Picture). length one.states + length one.words < 2 ^ 32) (sym then_is)
      (all_numbered m.code m.groups kept.sound (so_far ++ p ∷ []))

  pub asked_alone : all_keep_others told.events ≡ true → OthersAreSame p shown.words after_is.words
  asked_alone keep =
      subst₂ (λ (one other : Picture). OthersAreSame p one.words other.words) (sym before_is) (sym then_is)
      (others_same m so_far kept.stands turning now p told h dropped kept.sound keep)

  pub asked_room : length shown.states + sum_by length shown.words ≡ most_changed
  asked_room =
      ap (λ (one : Picture). length one.states + sum_by length one.words) before_is
      ∙ all_changes m.code m.groups kept.sound so_far ∙ sym kept.most_changes

  -- what isn't compared is as before
  pub asked_stores : (ranges : List Stores) → AreRanges m.code ranges → (processes : ℕ) → processes ≡ length shown.words → (own compared : Stores)
      → (p < processes → (q : Process Standing Copy) → slice_get m.world.processes p ≡ Some q → AreAllIn (slice_get ranges q.state.at) own)
      → ((k : ℕ) → k < 2 ^ 32 - 1 → (IsIn k compared → ⊥) → (told.kind ≡ Undone → ⊥) × (IsIn k own → ⊥))
      → all_keep_others told.events ≡ true → AreSameBut (Some compared) (belonging shown.words p) (belonging after_is.words p)
  asked_stores ranges are processes many own compared all left keep k within out = by (slice_get m.world.processes p) refl
    where
      low : k < 2 ^ 32 - 1
      low = omega (arith, within, own_within shown.words p, asked_room, kept.most_changes, few_changes m.code m.groups kept.sound)

      there : p < length shown.words
      there = within_own shown.words p k within

      by : (o : Option (Process Standing Copy)) → slice_get m.world.processes p ≡ o
          → slice_index_or (belonging shown.words p) k (pos 0) ≡ slice_index_or (belonging after_is.words p) k (pos 0)
      by None e = absurd (omega (
        arith,
        there,
        past_end m.world.processes p e,
        ap (λ (one : Picture). length one.words) before_is,
        length-map (word_run m.code m.groups so_far).0.processes (λ (q : Process Standing Copy). variable_words m.code q.state),
        ap (λ (w : WordWorld). length w.processes) (world_is m so_far kept.stands),
      ))
      by (Some q) e =
          subst₂ (λ (one other : Picture). AreSameBut (slice_get ranges q.state.at) (belonging one.words p) (belonging other.words p)) (sym before_is)
          (sym then_is)
          (stores_same m so_far kept.stands turning now p told h dropped kept.sound ranges are keep (left k low out).0 q e)
          k within (λ may. (left k low out).1 (all (omega (arith, there, many)) q e k low may))

-- a session that stands behind its last turn
pub is_last : (m : Seen) (turns : List Turn) (position : ℕ) (s : Course) → course_of m turns position ≡ s → s.position ≡ length s.ran
    → position ≡ length turns
is_last m turns position s is last =
    ap (λ (one : Course). one.position) is ∙ last ∙ ap (λ (one : Course). length one.ran) (sym is) ∙ processes_long turns

-- a turn that is looked up
pub found : (turns among : List Turn) (n : ℕ) (turn : Turn) → among ≡ turns → true ≡ nat_lt n (length among) → turn ≡ get_or among n turn
    → slice_get turns n ≡ Some turn
found turns among n turn same within is =
    ap (λ (xs : List Turn). slice_get xs n) (sym same)
    ∙ there_is among n turn (let less : true ≡ nat_lt n (length among) = within in grind (arith, nat_tests)) is

-- what it names is within what the turn changed
pub named_few : (m : Seen) (shown : Picture) (turns : List Turn) (room : ℕ) (changes part : List Change) (most_changed position : ℕ)
    (s : Course) (n at : ℕ) (turn : Turn) → IsKept m shown turns room changes most_changed position → course_of m turns position ≡ s → at ≡ n
    → slice_get turns n ≡ Some turn → part ≡ slice_range changes turn.from turn.to → count_by is_word part ≤ changed_words s at
named_few m shown turns room changes part most_changed position s n at turn kept is same there parts =
    subst₂ (λ (one : Course) (k : ℕ). count_by is_word part ≤ changed_words one k) is (sym same)
    (subst (λ (cs : List Change). count_by is_word cs ≤ changed_words (course_of m turns position) n) (sym parts) (kept.noted n turn there).few)
