-- What is found behind faults that are met in turn, and loops that find more at each step.
use Rattle.std.proofs.Common.{◌≡◌, ℕ, ◌+◌, ◌<◌, Bool, true, not, cond, List, [], ◌∷◌, ◌++◌, length, get_or, take, drop, map, reverse}
use Rattle.std.proofs.Common.{Option, Some, refl, sym, ap, ◌∙◌, add-one}
use Rattle.std.proofs.Math.Seq.{drop-cons}
use Rattle.std.proofs.lemmas.List.{append_assoc, reverse-append, take_more}
use Rattle.std.specs.List.{list_any}
use Rattle.rb_base.specs.declared.fault.SourceFault.{SourceFault}
use Rattle.rb_base.specs.declared.fault.FaultName.TheVariants.{N6, N11}
use Rattle.rb_syntax.specs.declared.expression.Name.{Name}
use Rattle.rb_syntax.specs.Tree.{Identifier, Tree}
use Rattle.rb_syntax.specs.Plain.{identifier}
use Rattle.rb_meaning.specs.Environment.{same_name}
use Rattle.rb_meaning.specs.Groups.{process_number}
use Rattle.rb_meaning.specs.Nesting.{uses_of}
use Rattle.rb_scope.specs.Finding.{first_after, first_with}
use Rattle.rb_scope.specs.Rules.{where_broken}
use Rattle.rb_nest.specs.Rules.{joins_in, members_faults}
use Rattle.rb_uses.specs.Members.{member_faults}
use Rattle.rb_uses.specs.Memory.{all_held, held}
use Rattle.rb_uses.specs.Summary.{Summary, faults_behind, summaries_faults, with_join}
use Rattle.rb_uses.specs.declared.usage.Use.{Use}
use Rattle.rb_uses.proofs.FirstAnswers.{any-map}

-- faults, and then others
pub after_append : (first : Option SourceFault) (xs ys : List SourceFault)
    → first_after first (xs ++ ys) ≡ first_after (first_after first xs) ys
after_append first [] ys = refl
after_append first (x ∷ xs) ys = after_append (Some (first_with first x)) xs ys

-- the rest of a list from an index on has the element there first
rest_at : {A : Type 0} (xs : List A) (i : ℕ) (d : A) → i < length xs → drop i xs ≡ get_or xs i d ∷ drop (i + 1) xs
rest_at xs i d h = drop-cons xs i d h ∙ ap (λ n. get_or xs i d ∷ drop n xs) (sym (add-one i))

-- One element more of a list whose parts have faults in turn: what is found behind the rest stays what it was.
pub found_more : {A : Type 0} (faults : List A → List SourceFault) (part : A → List SourceFault)
    → ((x : A) (xs : List A) → faults (x ∷ xs) ≡ part x ++ faults xs)
    → (xs : List A) (i : ℕ) (x : A) → x ≡ get_or xs i x → i < length xs
    → (before after whole : Option SourceFault) → first_after before (faults (drop i xs)) ≡ whole
    → after ≡ first_after before (part x) → first_after after (faults (drop (i + 1) xs)) ≡ whole
found_more faults part splits xs i x e h before after whole w a =
    let others = drop (i + 1) xs in
    ap (λ f. first_after f (faults others)) a
    ∙ sym (after_append before (part x) (faults others))
    ∙ ap (first_after before) (sym (splits x others))
    ∙ ap (λ y. first_after before (faults (y ∷ others))) e
    ∙ ap (λ ys. first_after before (faults ys)) (sym (rest_at xs i x h))
    ∙ w

-- One element more of a list from which another is made in order, by the places of the elements.
pub made_more : {A B : Type 0} (made : ℕ → List A → List B) (one : ℕ → A → B)
    → ((n : ℕ) (x : A) (xs : List A) → made n (x ∷ xs) ≡ one n x ∷ made (n + 1) xs)
    → (xs : List A) (n : ℕ) (x : A) → x ≡ get_or xs n x → n < length xs
    → (done whole : List B) (y : B) → done ++ made n (drop n xs) ≡ whole → y ≡ one n x
    → (done ++ y ∷ []) ++ made (n + 1) (drop (n + 1) xs) ≡ whole
made_more made one splits xs n x e h done whole y w a =
    let others = drop (n + 1) xs in
    append_assoc done (y ∷ []) (made (n + 1) others)
    ∙ ap (λ z. done ++ (z ∷ made (n + 1) others)) a
    ∙ ap (λ ys. done ++ ys) (sym (splits n x others))
    ∙ ap (λ z. done ++ made n (z ∷ others)) e
    ∙ ap (λ ys. done ++ made n ys) (sym (rest_at xs n x h))
    ∙ w

-- One use more: what is found behind the rest stays what it was.
module _ (tree : Tree) (uses : List Use) (i : ℕ) (d : Use) (h : i < length uses) where
  pub uses_more : (joins joins' : List Summary) (before after whole : Option SourceFault)
      → first_after before (summaries_faults tree joins (all_held (drop i uses))) ≡ whole
      → after ≡ first_after before (faults_behind tree joins (held (get_or uses i d)))
      → joins' ≡ with_join joins (held (get_or uses i d))
      → first_after after (summaries_faults tree joins' (all_held (drop (i + 1) uses))) ≡ whole
  uses_more joins joins' before after whole w a j =
      let one = held (get_or uses i d) in
      let others = all_held (drop (i + 1) uses) in
      ap (λ js. first_after after (summaries_faults tree js others)) j
      ∙ ap (λ f. first_after f (summaries_faults tree (with_join joins one) others)) a
      ∙ sym (after_append before (faults_behind tree joins one) (summaries_faults tree (with_join joins one) others))
      ∙ ap (λ us. first_after before (summaries_faults tree joins (all_held us))) (sym (rest_at uses i d h))
      ∙ w

-- what is found behind other members, once these are earlier
abbrev behind : Tree → List ℕ → Option SourceFault → List Name → List Name → Option SourceFault
behind tree conversation first earlier others =
    first_after first (members_faults tree conversation (map identifier earlier) (map identifier others))

-- the fault of a member, by whether it was named earlier
abbrev told : Tree → List ℕ → Name → Bool → List SourceFault
told tree conversation name again =
    cond again
    (where_broken true N11 name.place)
    (where_broken (not (list_any (joins_in (process_number tree name.text.now) conversation) (uses_of tree))) N6 name.place)

-- One member more.
module _ (tree : Tree) (conversation : List ℕ) (names : List Name) (i : ℕ) (d : Name) (h : i < length names) where
  pub members_more : (before after whole : Option SourceFault)
      → behind tree conversation before (reverse (take i names)) (drop i names) ≡ whole
      → after ≡ first_after before (member_faults tree conversation (reverse (take i names)) (get_or names i d))
      → behind tree conversation after (reverse (take (i + 1) names)) (drop (i + 1) names) ≡ whole
  members_more before after whole w a =
      let name = get_or names i d in
      let earlier = reverse (take i names) in
      let others = drop (i + 1) names in
      let test = λ (other : Identifier). same_name other.text name.text.now in
      let same = any-map test (λ (other : Name). test (identifier other)) identifier (λ other. refl) earlier in
      ap (λ ns. behind tree conversation after ns others) (ap reverse (take_more names i d h) ∙ reverse-append (take i names) (name ∷ []))
      ∙ ap (λ f. behind tree conversation f (name ∷ earlier) others) a
      ∙ ap (λ b. behind tree conversation (first_after before (told tree conversation name b)) (name ∷ earlier) others) (sym same)
      ∙ sym (after_append before (told tree conversation name (list_any test (map identifier earlier)))
      (members_faults tree conversation (map identifier (name ∷ earlier)) (map identifier others)))
      ∙ ap (behind tree conversation before earlier) (sym (rest_at names i d h))
      ∙ w
