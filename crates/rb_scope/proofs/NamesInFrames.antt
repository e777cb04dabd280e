-- A name that is used, and breaks no rule, stands for what the meaning finds under it: by what its use wants.
use Rattle.std.proofs.Common.{◌≡◌, ℕ, true, List, length, Option, Some, None, refl, sym, ap, subst, ◌∙◌, ◌<◌}
use Rattle.std.proofs.lemmas.Bool.{false≢true}
use Rattle.std.specs.List.{slice_get}
use Rattle.rb_syntax.specs.Tree.{Identifier, Tree}
use Rattle.rb_scope.specs.Frames.{Frames, Lying, OfCall, OfProcess, counter_among, lying}
use Rattle.rb_scope.specs.InFrames.{IsArray, IsChannel, IsConversation, IsProcedure, IsProcess, IsScalar, IsValue, IsValueBy}
use Rattle.rb_scope.specs.Rules.{fits, is_miscalled}
use Rattle.rb_scope.specs.Scopes.{Declared, meaning_of}
use Rattle.rb_scope.specs.Sites.{Spot, Uses, Calls}
use Rattle.rb_scope.specs.declared.want.Want.{Want}
use Rattle.rb_scope.specs.declared.want.Want.TheVariants.{AProcess, AChannel, AConversation, AProcedure, AScalar, AnArray, AValue}
use Rattle.rb_scope.specs.declared.slot.Slot.{Slot}
use Rattle.rb_scope.specs.declared.slot.Slot.TheVariants.{Process, Channel, Conversation, Procedure, Global, Local, Counter}
use Rattle.rb_scope.proofs.EachSite.{IsSettled, unbroken}
use Rattle.rb_scope.proofs.Meanings.{IsMeant, MeansIt}
use Rattle.rb_scope.proofs.Uses.{IsUsed, called, used}

-- Scopes, quantified expressions and acceptance tests around a spot are those of the frames.
pub record AreAlike (tree : Tree) (p : ℕ) (spot : Spot) (frames : Frames) : Type 0 where
  pub names : (x : List ℕ) → MeansIt tree p x (lying frames x) (counter_among frames.counters x) (meaning_of x spot.scopes)
  pub quantified : spot.quantified ≡ frames.quantified
  pub in_test : spot.in_test ≡ frames.in_test

module _ (tree : Tree) (p : ℕ) (slots : List Slot) where
  -- a name has this slot, which fits its use, and what the slot says is what the meaning finds
  record Fitting (want : Want) (name : Identifier) (lies : Option Lying) (counts : Option ℕ) (slot : Slot) (n : ℕ) : Type 0 where
    fits_it : fits want slot ≡ true
    has : slice_get slots name.id ≡ Some slot
    means : IsMeant tree p name.text lies counts slot n

  -- what a slot that fits says of a name
  module _ (frames : Frames) (name : Identifier) (counts : Option ℕ) where
    scalar-by : (slot : Slot) (n : ℕ) → Fitting AScalar name (lying frames name.text) counts slot n → IsScalar slots frames name
    scalar-by (Global at None) n f = record { at = OfProcess at f.means.0; found = f.means.1; one_word = f.means.3; slot = f.has }
    scalar-by (Local at None) n f = record { at = OfCall at f.means.0; found = f.means.1; one_word = f.means.3; slot = f.has }
    scalar-by other n f = absurd (false≢true f.fits_it)

    array-by : (slot : Slot) (n : ℕ) → Fitting AnArray name (lying frames name.text) counts slot n → IsArray slots frames name
    array-by (Global at (Some size)) n f = record {
      at = OfProcess at f.means.0;
      found = f.means.1;
      some = f.means.3.1;
      few = f.means.3.2;
      slot = f.has ∙ ap (λ k. Some (Global at (Some k))) f.means.3.0;
    }
    array-by (Local at (Some size)) n f = record {
      at = OfCall at f.means.0;
      found = f.means.1;
      some = f.means.3.1;
      few = f.means.3.2;
      slot = f.has ∙ ap (λ k. Some (Local at (Some k))) f.means.3.0;
    }
    array-by other n f = absurd (false≢true f.fits_it)

    value-by : (slot : Slot) (n : ℕ) → Fitting AValue name (lying frames name.text) counts slot n → IsValueBy counts slots frames name
    value-by (Counter k) n f = subst (λ c. IsValueBy c slots frames name) (sym f.means.0) (f.has, f.means.1)
    value-by (Global at None) n f =
        subst (λ c. IsValueBy c slots frames name) (sym f.means.2)
        (scalar-by (Global at None) n (record { fits_it = refl; has = f.has; means = f.means }))
    value-by (Local at None) n f =
        subst (λ c. IsValueBy c slots frames name) (sym f.means.2)
        (scalar-by (Local at None) n (record { fits_it = refl; has = f.has; means = f.means }))
    value-by other n f = absurd (false≢true f.fits_it)

  module _ (name : Identifier) (lies : Option Lying) (counts : Option ℕ) where
    process-by : (slot : Slot) (n : ℕ) → Fitting AProcess name lies counts slot n → IsProcess tree slots name
    process-by (Process k) n f = record {
      slot = f.has ∙ ap (λ i. Some (Process i)) (sym f.means.0);
      there = subst (λ i. i < length tree.processes) (sym f.means.0) f.means.1;
    }
    process-by other n f = absurd (false≢true f.fits_it)

    channel-by : (slot : Slot) (n : ℕ) → Fitting AChannel name lies counts slot n → IsChannel tree slots name
    channel-by (Channel k) n f = record {
      slot = f.has ∙ ap (λ i. Some (Channel i)) (sym f.means.0);
      there = subst (λ i. i < length tree.channels) (sym f.means.0) f.means.1;
    }
    channel-by other n f = absurd (false≢true f.fits_it)

    conversation-by : (slot : Slot) (n : ℕ) → Fitting AConversation name lies counts slot n → IsConversation tree slots name
    conversation-by (Conversation k) n f = record {
      slot = f.has ∙ ap (λ i. Some (Conversation i)) (sym f.means.0);
      there = subst (λ i. i < length tree.conversations) (sym f.means.0) f.means.1;
    }
    conversation-by other n f = absurd (false≢true f.fits_it)

    procedure-by : (slot : Slot) (n : ℕ) → Fitting AProcedure name lies counts slot n → IsProcedure tree slots p name n
    procedure-by (Procedure k) n f = record {
      procedure = f.means.procedure;
      number = k;
      found = f.means.found;
      there = f.means.there;
      slot = f.has;
      parameters = f.means.as_many;
    }
    procedure-by other n f = absurd (false≢true f.fits_it)

  -- a use that breaks no rule
  fitting : (want : Want) (name : Identifier) (lies : Option Lying) (counts : Option ℕ) (meaning : Option Declared)
      → MeansIt tree p name.text lies counts meaning → (u : IsUsed slots want name meaning)
      → Fitting want name lies counts u.one.slot u.one.parameters
  fitting want name lies counts meaning means u =
      record { fits_it = u.fitting; has = u.slot; means = subst (MeansIt tree p name.text lies counts) u.meant means }

  module _ (spot : Spot) (frames : Frames) (alike : AreAlike tree p spot frames) (name : Identifier) where
    abbrev lies : Option Lying
    lies = lying frames name.text

    abbrev counts : Option ℕ
    counts = counter_among frames.counters name.text

    abbrev meaning : Option Declared
    meaning = meaning_of name.text spot.scopes

    settled : (want : Want) → IsSettled slots (Uses want name spot.scopes) → IsUsed slots want name meaning
    settled want s = used slots want name meaning s.0 s.1

    known : (want : Want) (u : IsUsed slots want name meaning) → Fitting want name lies counts u.one.slot u.one.parameters
    known want u = fitting want name lies counts meaning (alike.names name.text) u

    pub scalar_used : IsSettled slots (Uses AScalar name spot.scopes) → IsScalar slots frames name
    scalar_used s =
        let u = settled AScalar s in scalar-by frames name counts u.one.slot u.one.parameters (known AScalar u)

    pub array_used : IsSettled slots (Uses AnArray name spot.scopes) → IsArray slots frames name
    array_used s =
        let u = settled AnArray s in array-by frames name counts u.one.slot u.one.parameters (known AnArray u)

    pub value_used : IsSettled slots (Uses AValue name spot.scopes) → IsValue slots frames name
    value_used s =
        let u = settled AValue s in value-by frames name counts u.one.slot u.one.parameters (known AValue u)

    pub channel_used : IsSettled slots (Uses AChannel name spot.scopes) → IsChannel tree slots name
    channel_used s =
        let u = settled AChannel s in channel-by name lies counts u.one.slot u.one.parameters (known AChannel u)

    pub conversation_used : IsSettled slots (Uses AConversation name spot.scopes) → IsConversation tree slots name
    conversation_used s =
        let u = settled AConversation s in conversation-by name lies counts u.one.slot u.one.parameters (known AConversation u)

    pub procedure_used : (n : ℕ) → IsSettled slots (Uses AProcedure name spot.scopes) → IsSettled slots (Calls name n spot.scopes)
        → IsProcedure tree slots p name n
    procedure_used n s c =
        let u = settled AProcedure s in
        let as_many = called n meaning u.one u.meant u.fitting (unbroken (is_miscalled n meaning) _ name.place c.1) in
        subst (λ k. IsProcedure tree slots p name k) as_many
        (procedure-by name lies counts u.one.slot u.one.parameters (known AProcedure u))

  -- a process that is named outside all processes
  pub process_used : (name : Identifier) (meaning : Option Declared) → IsUsed slots AProcess name meaning
      → MeansIt tree p name.text None None meaning → IsProcess tree slots name
  process_used name meaning u means =
      process-by name None None u.one.slot u.one.parameters (fitting AProcess name None None meaning means u)
