-- Where the uses of a tree stand: in the process and the kind of body of their spot, and each `converse` in a chain of conversations.
use Rattle.std.proofs.Common.{◌≡◌, ℕ, zero, suc, ◌+◌, ◌≤◌, Bool, true, false, List, [], ◌∷◌, ◌++◌, slice_get, Option, Some, None, refl, ap, sym, ◌∙◌, subst, true≢false, arith}
use Rattle.std.proofs.lemmas.Bool.{eqb-true}
use Rattle.std.proofs.lemmas.List.Folds.{list_all-append}
use Rattle.std.specs.List.{AllByRecursion, list_all}
use Rattle.rb_syntax.specs.Tree.{Identifier, Command, Assignment, Printing, Sending, Receiving, Conditional, Loop, Invocation, Failure, Recovering, Commands, NoCommand, Then, Body, Scope, Otherwise, NoElse, Else, RecoveryBlock, Recovers, Alternates, NoAlternate, Alternate, ProcedureDeclaration, ProcessDeclaration, Tree}
use Rattle.rb_world.specs.Kind.{Membership}
use Rattle.rb_world.specs.Reject.{parent_of}
use Rattle.rb_world.proofs.ListFacts.{first_holds, second_holds}
use Rattle.rb_meaning.specs.Groups.{conversation_number, conversation_of, count_alternates, groups_of}
use Rattle.rb_meaning.specs.Nesting.{Deed, Joins, Sends, Receives, Spot, Use, innermost, inside, is_same_conversation, keeps_n4, outside, uses_in, uses_in_alternates, uses_in_block, uses_in_body, uses_in_command, uses_in_otherwise, uses_in_procedures, uses_in_processes}
use Rattle.rb_scope.proofs.EachSite.{all_append, all_weaker}
use Rattle.rb_nest.specs.Rules.{conversations_around}
use Rattle.rb_code.specs.SoundCode.WellFormed.{IsChain}

-- two conversations that are the same
pub same_conversation : (o p : Option ℕ) → is_same_conversation o p ≡ true → o ≡ p
same_conversation None None h = refl
same_conversation None (Some d) h = absurd (true≢false (sym h))
same_conversation (Some d) None h = absurd (true≢false (sym h))
same_conversation (Some d) (Some e) h = ap Some (sym (eqb-true e d h))

-- a longer bound
pub chain_more : (groups : List Membership) (n m : ℕ) (o : Option ℕ) → n ≤ m → IsChain groups n o → IsChain groups m o
chain_more groups n m None h chain = tt
chain_more groups zero m (Some d) h chain = absurd chain
chain_more groups (suc n) zero (Some d) h chain = absurd (omega arith)
chain_more groups (suc n) (suc m) (Some d) h chain = chain_more groups n m (parent_of (slice_get groups d)) (omega arith) chain

module _ (tree : Tree) where
  -- the conversations around a spot are a chain
  abbrev pub Chained : List (Option Identifier) → Type 0
  Chained around = IsChain (groups_of tree) (conversations_around around) (conversation_of tree (innermost around))

  abbrev pub ChainedBy : Deed → Identifier → List (Option Identifier) → Type 0
  ChainedBy (Joins n) name around = IsChain (groups_of tree) (conversations_around around + 1) (Some (conversation_number tree name.text))
  ChainedBy Sends name around = Unit {0}
  ChainedBy Receives name around = Unit {0}

  -- a use of process q, in a procedure or not
  pub record IsPlaced (q : ℕ) (in_procedure : Bool) (one : Use) : Type 0 where
    pub process : one.spot.process ≡ q
    pub body : one.spot.in_procedure ≡ in_procedure
    pub chained : ChainedBy one.deed one.name one.spot.around

  abbrev pub AreFourth : List Use → Type 0
  AreFourth uses = list_all (keeps_n4 tree) uses ≡ true

  pub fourth_first : (xs ys : List Use) → AreFourth (xs ++ ys) → AreFourth xs
  fourth_first xs ys h =
      first_holds (list_all (keeps_n4 tree) xs) (list_all (keeps_n4 tree) ys) (sym (list_all-append (keeps_n4 tree) xs ys) ∙ h)

  pub fourth_second : (xs ys : List Use) → AreFourth (xs ++ ys) → AreFourth ys
  fourth_second xs ys h =
      second_holds (list_all (keeps_n4 tree) xs) (list_all (keeps_n4 tree) ys) (sym (list_all-append (keeps_n4 tree) xs ys) ∙ h)

  -- a chain one longer
  longer : (name : Identifier) (around : List (Option Identifier)) → Chained around
      → is_same_conversation (conversation_of tree (innermost around))
      (parent_of (slice_get (groups_of tree) (conversation_number tree name.text))) ≡ true
      → IsChain (groups_of tree) (conversations_around around + 1) (Some (conversation_number tree name.text))
  longer name around chain same =
      let k = conversations_around around in
      let e : suc k ≡ k + 1 = omega arith in
      subst (λ n. IsChain (groups_of tree) n (Some (conversation_number tree name.text))) e
      (subst (IsChain (groups_of tree) k)
      (same_conversation (conversation_of tree (innermost around))
      (parent_of (slice_get (groups_of tree) (conversation_number tree name.text))) same) chain)

  module _ (q : ℕ) (r : Bool) where
    abbrev ArePlaced : List Use → Type 0
    ArePlaced uses = AllByRecursion (IsPlaced q r) uses

    record IsAt (spot : Spot) : Type 0 where
      process : spot.process ≡ q
      body : spot.in_procedure ≡ r
      chained : Chained spot.around

    both : (xs ys : List Use) → ArePlaced xs → ArePlaced ys → ArePlaced (xs ++ ys)
    both xs ys first second = all_append (IsPlaced q r) xs ys first second

    mutual
      command_placed : (spot : Spot) (command : Command) → IsAt spot → AreFourth (uses_in_command spot command)
          → ArePlaced (uses_in_command spot command)
      command_placed spot (Assignment to value) at h = tt
      command_placed spot (Printing items) at h = tt
      command_placed spot (Sending channel value) at h = (record { process = at.process; body = at.body; chained = tt }, tt)
      command_placed spot (Receiving channel to otherwise) at h = (
        record { process = at.process; body = at.body; chained = tt },
        otherwise_placed spot otherwise at
            (fourth_second (record { name = channel; deed = Receives; spot = spot } ∷ []) (uses_in_otherwise spot otherwise) h),
      )
      command_placed spot (Conditional test body otherwise) at h =
          both (uses_in_body spot body) (uses_in_otherwise spot otherwise)
          (body_placed spot body at (fourth_first (uses_in_body spot body) (uses_in_otherwise spot otherwise) h))
          (otherwise_placed spot otherwise at (fourth_second (uses_in_body spot body) (uses_in_otherwise spot otherwise) h))
      command_placed spot (Loop test body) at h = body_placed spot body at h
      command_placed spot (Invocation procedure arguments) at h = tt
      command_placed spot Failure at h = tt
      command_placed spot (Recovering block) at h = block_placed spot block at h

      commands_placed : (spot : Spot) (commands : Commands) → IsAt spot → AreFourth (uses_in spot commands) → ArePlaced (uses_in spot commands)
      commands_placed spot NoCommand at h = tt
      commands_placed spot (Then first rest) at h =
          both (uses_in_command spot first) (uses_in spot rest)
          (command_placed spot first at (fourth_first (uses_in_command spot first) (uses_in spot rest) h))
          (commands_placed spot rest at (fourth_second (uses_in_command spot first) (uses_in spot rest) h))

      body_placed : (spot : Spot) (body : Body) → IsAt spot → AreFourth (uses_in_body spot body) → ArePlaced (uses_in_body spot body)
      body_placed spot (Scope variables commands) at h = commands_placed spot commands at h

      otherwise_placed : (spot : Spot) (otherwise : Otherwise) → IsAt spot → AreFourth (uses_in_otherwise spot otherwise)
          → ArePlaced (uses_in_otherwise spot otherwise)
      otherwise_placed spot NoElse at h = tt
      otherwise_placed spot (Else body) at h = body_placed spot body at h

      block_placed : (spot : Spot) (block : RecoveryBlock) → IsAt spot → AreFourth (uses_in_block spot block) → ArePlaced (uses_in_block spot block)
      block_placed spot (Recovers number None place test bound alternates) at h =
          alternates_placed (inside None spot) alternates (record { process = at.process; body = at.body; chained = at.chained }) h
      block_placed spot (Recovers number (Some name) place test bound alternates) at h =
          let joins : Use = record { name = name; deed = Joins (count_alternates alternates); spot = spot } in
          let others = uses_in_alternates (inside (Some name) spot) alternates in
          let here = first_holds (keeps_n4 tree joins) (list_all (keeps_n4 tree) others) h in
          let chain = longer name spot.around at.chained here in (
            record { process = at.process; body = at.body; chained = chain },
            alternates_placed (inside (Some name) spot) alternates (record { process = at.process; body = at.body; chained = chain })
                (second_holds (keeps_n4 tree joins) (list_all (keeps_n4 tree) others) h),
          )

      alternates_placed : (spot : Spot) (alternates : Alternates) → IsAt spot → AreFourth (uses_in_alternates spot alternates)
          → ArePlaced (uses_in_alternates spot alternates)
      alternates_placed spot NoAlternate at h = tt
      alternates_placed spot (Alternate body others) at h =
          both (uses_in_body spot body) (uses_in_alternates spot others)
          (body_placed spot body at (fourth_first (uses_in_body spot body) (uses_in_alternates spot others) h))
          (alternates_placed spot others at (fourth_second (uses_in_body spot body) (uses_in_alternates spot others) h))

  -- those of the main body of a process, and of its procedures
  pub main_placed : (q : ℕ) (commands : Commands) → AreFourth (uses_in (outside q false) commands)
      → AllByRecursion (IsPlaced q false) (uses_in (outside q false) commands)
  main_placed q commands h = commands_placed q false (outside q false) commands (record { process = refl; body = refl; chained = tt }) h

  pub procedures_placed : (q : ℕ) (procedures : List ProcedureDeclaration) → AreFourth (uses_in_procedures q procedures)
      → AllByRecursion (IsPlaced q true) (uses_in_procedures q procedures)
  procedures_placed q [] h = tt
  procedures_placed q (one ∷ others) h =
      let uses = uses_in_body (outside q true) one.body in
      all_append (IsPlaced q true) uses (uses_in_procedures q others)
      (body_placed q true (outside q true) one.body (record { process = refl; body = refl; chained = tt })
      (fourth_first uses (uses_in_procedures q others) h))
      (procedures_placed q others (fourth_second uses (uses_in_procedures q others) h))

  -- each `converse` of the processes from number q on stands in a chain
  abbrev pub IsChained : Use → Type 0
  IsChained one = ChainedBy one.deed one.name one.spot.around

  pub processes_chained : (q : ℕ) (processes : List ProcessDeclaration) → AreFourth (uses_in_processes q processes)
      → AllByRecursion IsChained (uses_in_processes q processes)
  processes_chained q [] h = tt
  processes_chained q (process ∷ others) h =
      let procedures = uses_in_procedures q process.procedures in
      let main = uses_in (outside q false) process.commands in
      let rest = uses_in_processes (q + 1) others in
      let behind = fourth_second procedures (main ++ rest) h in
      all_append IsChained procedures (main ++ rest)
      (all_weaker (IsPlaced q true) IsChained procedures (λ one placed. placed.chained)
      (procedures_placed q process.procedures (fourth_first procedures (main ++ rest) h)))
      (all_append IsChained main rest
      (all_weaker (IsPlaced q false) IsChained main (λ one placed. placed.chained) (main_placed q process.commands (fourth_first main rest behind)))
      (processes_chained (q + 1) others (fourth_second main rest behind)))
