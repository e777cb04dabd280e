-- The names of an expression stand for what the meaning finds under them.
use Rattle.std.proofs.Common.{ℕ, ◌+◌, ◌<◌, not, cond, nat_le, List, [], ◌∷◌, Some, sym, ap, subst, ◌∙◌}
use Rattle.std.proofs.lemmas.Bool.{leb-false, not-false}
use Rattle.rb_syntax.specs.Tree.{Identifier, Expression, Literal, Variable, Former, Minus, Negation, Chained, Quantification, Reference, Refer, Scalar, Element, Links, NoLink, Linked, Printed, Words, Amount, Tree}
use Rattle.rb_meaning.specs.Environment.{same_name}
use Rattle.rb_scope.specs.Frames.{Frames, counter_among, in_body, in_limit, lying}
use Rattle.rb_scope.specs.InFrames.{ExpressionInFrames, IsScalar, IsValue, LinksInFrames, PrintedInFrames, ReferenceInFrames, most_quantifications}
use Rattle.rb_scope.specs.Scopes.{meaning_of}
use Rattle.rb_scope.specs.Sites.{Spot, Uses, counter, expression_sites, links_sites, printed_sites, quantified, reference_sites, within}
use Rattle.rb_scope.specs.declared.want.Want.{Want}
use Rattle.rb_scope.specs.declared.want.Want.TheVariants.{AScalar, AValue}
use Rattle.rb_scope.specs.declared.slot.Slot.{Slot}
use Rattle.rb_scope.specs.declared.slot.Slot.TheVariants.{Counter}
use Rattle.rb_scope.proofs.EachSite.{AreSettled, IsSettled, all_split, unbroken}
use Rattle.rb_scope.proofs.Meanings.{MeansIt, counter_more}
use Rattle.rb_scope.proofs.NamesInFrames.{AreAlike, array_used, scalar_used, value_used}

-- what a use of a variable wants of its name
abbrev pub IsWanted : List Slot → Frames → Want → Identifier → Type 0
IsWanted slots frames AScalar = IsScalar slots frames
IsWanted slots frames AValue = IsValue slots frames
IsWanted slots frames _ = λ name. Unit {0}

-- in a limit of a quantified expression
alike_in_limit : (tree : Tree) (p : ℕ) (spot : Spot) (frames : Frames) → AreAlike tree p spot frames
    → AreAlike tree p (quantified spot) (in_limit frames)
alike_in_limit tree p spot frames alike =
    record { names = alike.names; quantified = ap (λ n. n + 1) alike.quantified; in_test = alike.in_test }

-- in its body, a spot with its name
abbrev within_body : Identifier → Spot → Spot
within_body name spot = within (counter name spot ∷ []) 0 (quantified spot)

alike_in_body : (tree : Tree) (p : ℕ) (spot : Spot) (frames : Frames) (name : Identifier) → spot.quantified < most_quantifications
    → AreAlike tree p spot frames → AreAlike tree p (within_body name spot) (in_body name frames)
alike_in_body tree p spot frames name few alike = record {
  names = λ x.
      let named = same_name name.text x in
      let counts = counter_among frames.counters x in
      let meaning = meaning_of x spot.scopes in
      let inside = meaning_of x (within_body name spot).scopes in
      let Means : ℕ → Type 0 = λ k. MeansIt tree p x (lying frames x) (cond named (Some k) counts) inside in
      subst Means alike.quantified (counter_more tree p x name spot.quantified named (lying frames x) counts meaning few (alike.names x));
  quantified = ap (λ n. n + 1) alike.quantified;
  in_test = alike.in_test;
}

module _ (tree : Tree) (p : ℕ) (slots : List Slot) where
  wanted_used : (spot : Spot) (frames : Frames) → AreAlike tree p spot frames → (want : Want) (name : Identifier)
      → IsSettled slots (Uses want name spot.scopes) → IsWanted slots frames want name
  wanted_used spot frames alike AScalar name s = scalar_used tree p slots spot frames alike name s
  wanted_used spot frames alike AValue name s = value_used tree p slots spot frames alike name s
  wanted_used spot frames alike other name s = tt

  mutual
    pub expression_known : (spot : Spot) (frames : Frames) → AreAlike tree p spot frames → (e : Expression)
        → AreSettled slots (expression_sites spot e) → ExpressionInFrames slots frames e
    expression_known spot frames alike (Literal number) all = tt
    expression_known spot frames alike (Variable reference) all = reference_known spot frames alike AValue reference all
    expression_known spot frames alike (Former place reference) all = (
      sym alike.in_test ∙ not-false spot.in_test (unbroken (not spot.in_test) _ place all.0.1),
      reference_known spot frames alike AScalar reference all.1,
    )
    expression_known spot frames alike (Minus operand) all = expression_known spot frames alike operand all
    expression_known spot frames alike (Negation operand) all = expression_known spot frames alike operand all
    expression_known spot frames alike (Chained first links) all =
        let parts = all_split (IsSettled slots) _ _ all in
        (expression_known spot frames alike first parts.0, links_known spot frames alike links parts.1)
    expression_known spot frames alike (Quantification kind place name low high body) all =
        let few = leb-false 2 spot.quantified (unbroken (nat_le 2 spot.quantified) _ place all.0.1) in
        let limit = alike_in_limit tree p spot frames alike in
        let parts = all_split (IsSettled slots) _ _ all.1.1 in
        let rest = all_split (IsSettled slots) _ _ parts.1 in (
          subst (λ n. n < most_quantifications) alike.quantified few,
          all.1.0.0 ∙ ap (λ n. Some (Counter n)) alike.quantified,
          expression_known (quantified spot) (in_limit frames) limit low parts.0,
          expression_known (quantified spot) (in_limit frames) limit high rest.0,
          expression_known (within_body name spot) (in_body name frames) (alike_in_body tree p spot frames name few alike) body rest.1,
        )

    reference_known : (spot : Spot) (frames : Frames) → AreAlike tree p spot frames → (want : Want) (r : Reference)
        → AreSettled slots (reference_sites spot want r) → ReferenceInFrames slots frames (IsWanted slots frames want) r
    reference_known spot frames alike want (Refer name Scalar) all = wanted_used spot frames alike want name all.0
    reference_known spot frames alike want (Refer name (Element index)) all =
        (array_used tree p slots spot frames alike name all.0, expression_known spot frames alike index all.1)

    links_known : (spot : Spot) (frames : Frames) → AreAlike tree p spot frames → (links : Links)
        → AreSettled slots (links_sites spot links) → LinksInFrames slots frames links
    links_known spot frames alike NoLink all = tt
    links_known spot frames alike (Linked op right links) all =
        let parts = all_split (IsSettled slots) _ _ all in
        (expression_known spot frames alike right parts.0, links_known spot frames alike links parts.1)

  -- a place in which a value is stored
  pub target_known : (spot : Spot) (frames : Frames) → AreAlike tree p spot frames → (r : Reference)
      → AreSettled slots (reference_sites spot AScalar r) → ReferenceInFrames slots frames (IsScalar slots frames) r
  target_known spot frames alike r all = reference_known spot frames alike AScalar r all

  pub printed_known : (spot : Spot) (frames : Frames) → AreAlike tree p spot frames → (what : Printed)
      → AreSettled slots (printed_sites spot what) → PrintedInFrames slots frames what
  printed_known spot frames alike (Words text) all = tt
  printed_known spot frames alike (Amount value) all = expression_known spot frames alike value all
