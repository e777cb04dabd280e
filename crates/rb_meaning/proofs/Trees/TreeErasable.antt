-- Trees meet what erasure asks of a kind of process state.
use Rattle.std.proofs.Common.{◌≡◌, ℕ, zero, suc, ℤ, pos, List, [], ◌∷◌, length, map, slice_get, unwrap_or, Option, refl, sym, ap, subst}
use Rattle.rb_syntax.specs.Tree.{Tree}
use Rattle.rb_world.specs.Kind.{Went, Held}
use Rattle.rb_world.specs.World.{last_of, copy_of}
use Rattle.rb_world.proofs.Erasing.ErasableKinds.{IsErasable, LeavesAlone, SameMail}
use Rattle.rb_meaning.specs.Environment.{Environment}
use Rattle.rb_meaning.specs.State.{State, settle, with_held}
use Rattle.rb_meaning.specs.Step.{Result_of_step, enter, step, wants_first}
use Rattle.rb_meaning.specs.Meaning.{environment_of}
use Rattle.rb_meaning.proofs.Nesting.ChannelEnds.{first_receives, first_sends}
use Rattle.rb_meaning.proofs.Knowing.KnownOfProcess.{Known}
use Rattle.rb_meaning.proofs.Knowing.KnownFacts.{running_inside}
use Rattle.rb_meaning.proofs.Nesting.LevelsNest.{levels_nest, levels_of_members}
use Rattle.rb_meaning.proofs.Trees.MailOfSteps.{Posts, list_on}
use Rattle.rb_meaning.proofs.Nesting.StartsAndEntries.{outermost_alone, starts_there}
use Rattle.rb_meaning.proofs.Nesting.StepsKeepRules.{StepsTo}
use Rattle.rb_meaning.proofs.Trees.StepsChangeMail.{IsPassed, steps_post}
use Rattle.rb_meaning.proofs.Trees.TreeParts.{moves_by, parts_of}

-- the lengths that an entry keeps are those of the lists
lengths_kept : (lists : List (List ℤ)) (c : ℕ) → unwrap_or (slice_get (map (λ (xs : List ℤ). length xs) lists) c) 0 ≡ length (list_on lists c)
lengths_kept [] c = refl
lengths_kept (xs ∷ lists) zero = refl
lengths_kept (xs ∷ lists) (suc c) = lengths_kept lists c

module _ (tree : Tree) where
  -- states with the same lists have the same mail
  mail_same : (s t : State) → t.sent ≡ s.sent → t.taken ≡ s.taken → SameMail (parts_of tree) s t
  mail_same s t es et = record {
    sent = λ c. ap (λ lists. length (list_on lists c)) es;
    taken = λ c. ap (λ taken. unwrap_or (slice_get taken c) 0) et;
    messages = λ c n. ap (λ lists. unwrap_or (slice_get (list_on lists c) n) (pos 0)) es;
  }

  settles_alone : (s : State) → LeavesAlone (parts_of tree) s (settle s)
  settles_alone s = record { mail = mail_same s (settle s) refl refl; held = refl; kept = refl }

  enters_alone : (s : State) → LeavesAlone (parts_of tree) s (enter s)
  enters_alone s = record { mail = mail_same s (enter s) refl refl; held = refl; kept = refl }

  went_posts : (alternate : ℕ) (prior : Option Environment) (message : Option ℤ) (s t : State) → step tree alternate prior s message ≡ Went t tt
      → Posts (wants_first tree s.items) message s t
  went_posts alternate prior message s t e =
      subst (λ (r : Result_of_step). StepsTo (Posts (wants_first tree s.items) message s) (IsPassed (wants_first tree s.items) s) r) e
      (steps_post tree alternate prior s message s.items)

  held_passes : (alternate : ℕ) (prior : Option Environment) (message : Option ℤ) (s t : State) → step tree alternate prior s message ≡ Held t
      → IsPassed (wants_first tree s.items) s t
  held_passes alternate prior message s t e =
      subst (λ (r : Result_of_step). StepsTo (Posts (wants_first tree s.items) message s) (IsPassed (wants_first tree s.items) s) r) e
      (steps_post tree alternate prior s message s.items)

  passes_alone : (s t : State) → IsPassed (wants_first tree s.items) s t → LeavesAlone (parts_of tree) s t
  passes_alone s t passed = record { mail = mail_same s t passed.sent passed.taken; held = passed.held; kept = passed.kept }

  -- all that erasure asks
  pub erasable : IsErasable (parts_of tree) (Known tree)
  erasable = record {
    point_environment = λ s. refl;
    point_sent = λ s c. lengths_kept s.sent c;
    point_taken = λ s c. refl;
    settles = settles_alone;
    enters = enters_alone;
    keeps_mail = λ t alternate s. mail_same s _ refl refl;
    keeps_held = λ t alternate s. refl;
    keeps = λ t alternate s. refl;
    releases_mail = λ s. mail_same s _ refl refl;
    releases_kept = λ s. refl;
    releases = λ s. refl;
    releases_none = λ s e. ap (λ lines. with_held lines s) (sym e);
    goes = λ p q w alternate message s known at e.
        moves_by tree message q.state s known.own.sent known.own.taken
        (went_posts alternate (environment_of (copy_of (last_of q.levels))) message q.state s e);
    holds = λ p q w alternate message s known at e. passes_alone q.state s
        (held_passes alternate (environment_of (copy_of (last_of q.levels))) message q.state s e);
    holds_acting = λ p q alternate prior message s known e. (held_passes alternate prior message q.state s e).acts;
    starts = λ p q alternate prior message s known running away wants e. starts_there tree p q known away alternate prior message s running wants e;
    sends = λ p q c ends known wants at. first_sends tree p c ends q.state.items known.own.clear wants at;
    receives = λ p q c ends known wants at. first_receives tree p c ends q.state.items known.own.clear wants at;
    nested = λ p q known. levels_nest tree p q.levels known.points;
    is_member = λ p q i c known at. levels_of_members tree p q.levels i c known.points at;
    outermost = λ p q facts c known away wants of_c alone. outermost_alone tree p q known away facts c wants of_c alone;
    runs = λ p q i level known at. running_inside q.levels q.status i level known.inside at;
  }
