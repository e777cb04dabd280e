-- How far a part was read: up to a point, from which on a plan is left of its form. Each form is followed by these
-- lemmas alone, one for each of its tokens and parts.
use Rattle.std.proofs.Common.{[], ◌≡◌, true, false, Some, None, Result, IfErr, refl, sym, ap, subst, ◌∙◌}
use Rattle.std.specs.Result.{IsErrAnd}
use Rattle.std.proofs.lemmas.Result.{err_from_is_err_and, IfErr-weaker}
use Rattle.std.specs.Option.{is_some}
use Rattle.rb_base.specs.declared.fault.SourceFault.{SourceFault}
use Rattle.rb_lex.specs.Tokens.{Lexeme, Ending, AtFault}
use Rattle.rb_grammar.specs.declared.stop.Stop.{Stop}
use Rattle.rb_grammar.specs.declared.stop.Stop.TheVariants as stops
use Rattle.rb_grammar.specs.declared.terminal.Terminal.{Terminal}
use Rattle.rb_grammar.specs.Grammar.{Point}
use Rattle.rb_grammar.specs.Machine.{fits, run, look, seen_at, Advances, Reads, Stops}
use Rattle.rb_grammar.specs.Parts.{Part}
use Rattle.rb_grammar.specs.Plans.{Value, Seen, Plan, Done, Token, Call, bind}
use Rattle.rb_grammar.specs.Reading.{Position, Misses, TakesLast, Exhausts, Stopped, by_form, by_token, by_memory}
use Rattle.rb_grammar.specs.Table.{begin, start, empty}
use Rattle.rb_grammar.proofs.Accepting.Running.{bind-assoc, run_token, run_misses, run_start, run_empty, run_none, run_begin, run_begin_here}
use Rattle.rb_syntax.specs.Tree.{Tree}

true_not_false : true ≡ false → ⊥
true_not_false e = cc

-- a part was begun at one point, and at another this plan is left of it
pub record Reaches (part : Part) (a : Point) (plan : Plan (Value part)) (b : Point) : Type 0 where
  pub leads : (k : Value part → Plan Tree) → run (Call part k) a ≡ run (bind plan k) b

-- where a token was seen
abbrev pub seen_from : Lexeme → Point → Seen
seen_from token a = record { token = token; names = a.names; blocks = a.blocks }

-- at first all of it is left
pub unread : (part : Part) (a : Point) → Reaches part a (Call part (λ v. Done v)) a
unread part a = record { leads = λ k. refl }

-- the form that begins with this token is begun
pub starts : {part : Part} {terminal : Terminal} {token : Lexeme} {a b : Point} (f : Seen → Plan (Value part)) →
    start part (Some terminal) ≡ Some f → Advances terminal token a b → Reaches part a (f (seen_from token a)) b
starts {part} {terminal} {token} {a} {b} f s h = record { leads = λ k. run_start part terminal token a b h f s k }

-- the form that begins with a part is begun
pub begins : {part : Part} (part_first : Part) (a : Point) (rest : Seen → Value part_first → Plan (Value part)) →
    start part (look a.left) ≡ begin (start part_first (look a.left)) rest → empty part ≡ None → empty part_first ≡ None →
    Reaches part a (Call part_first (rest (seen_at a))) a
begins {part} part_first a rest s e e_first = record { leads = λ k. run_begin part part_first rest a s e e_first k }

-- the same of a part that may have no tokens, where the first of its parts does begin here
pub begins_here : {part : Part} (part_first : Part) (a : Point) (rest : Seen → Value part_first → Plan (Value part)) →
    start part (look a.left) ≡ begin (start part_first (look a.left)) rest → is_some (start part_first (look a.left)) ≡ true →
    Reaches part a (Call part_first (rest (seen_at a))) a
begins_here {part} part_first a rest s e = record { leads = λ k. run_begin_here part part_first rest a s e k }

-- what is left of a part within it is left of the whole
pub within : {part part_first : Part} {a b c : Point} {f : Value part_first → Plan (Value part)} {plan : Plan (Value part_first)}
    → Reaches part a (Call part_first f) b → Reaches part_first b plan c → Reaches part a (bind plan f) c
within {b = b} {c = c} {f = f} {plan = plan} r s = record {
  leads = λ k. r.leads k ∙ s.leads (λ v. bind (f v) k) ∙ ap (λ p. run p c) (sym (bind-assoc plan f k));
}

-- a part was read
pub by_part : {part part_first : Part} {a b c : Point} {f : Value part_first → Plan (Value part)} {v : Value part_first} →
    Reaches part a (Call part_first f) b → Reads part_first v b c → Reaches part a (f v) c
by_part {f = f} r s = record { leads = λ k. r.leads k ∙ s.leads (λ v. bind (f v) k) }

-- a token was taken
pub by_terminal : {part : Part} {terminal : Terminal} {token : Lexeme} {a b c : Point} {f : Seen → Plan (Value part)} →
    Reaches part a (Token terminal f) b → Advances terminal token b c → Reaches part a (f (seen_from token b)) c
by_terminal {terminal = terminal} {token = token} {b = b} {c = c} {f = f} r h = record {
  leads = λ k. r.leads k ∙ run_token terminal token b c h (λ seen. bind (f seen) k);
}

-- nothing is left of it
pub complete : {part : Part} {a b : Point} {v : Value part} → Reaches part a (Done v) b → Reads part v a b
complete r = record { leads = r.leads }

-- another way to say what is left
pub same_rest : {part : Part} (part_first : Part) {a b : Point} (f g : Value part_first → Plan (Value part)) →
    ((v : Value part_first) → f v ≡ g v) → Reaches part a (Call part_first f) b → Reaches part a (Call part_first g) b
same_rest part_first {b = b} f g e r = record { leads = λ k. r.leads k ∙ λ j. run (Call part_first (λ v. bind (e v j) k)) b }

pub same_value : {part : Part} {a b : Point} {v w : Value part} → v ≡ w → Reads part v a b → Reads part w a b
same_value {b = b} e r = record { leads = λ k. r.leads k ∙ ap (λ v. run (k v) b) e }

-- a part without tokens
pub passes : {part : Part} (v : Value part) (a : Point) → start part (look a.left) ≡ None → empty part ≡ Some v → Reads part v a a
passes {part} v a s e = record { leads = λ k. run_empty part v a s e k }

-- no form begins here
pub stops_first : {part : Part} (a : Point) → start part (look a.left) ≡ None → empty part ≡ None → Stops part a a
stops_first {part} a s e = record { leads = λ k. run_none part a s e k }

-- the part that is wanted stops
pub stops_within : {part part_first : Part} {a b c : Point} {f : Value part_first → Plan (Value part)} →
    Reaches part a (Call part_first f) b → Stops part_first b c → Stops part a c
stops_within {f = f} r s = record { leads = λ k. r.leads k ∙ s.leads (λ v. bind (f v) k) }

-- the token that is wanted does not stand first
pub stops_at : {part : Part} {terminal : Terminal} {a b : Point} {f : Seen → Plan (Value part)} →
    Reaches part a (Token terminal f) b → fits (look b.left) terminal ≡ false → Stops part a b
stops_at {terminal = terminal} {b = b} {f = f} r e = record {
  leads = λ k. r.leads k ∙ run_misses terminal b.left b.names b.blocks e (λ seen. bind (f seen) k);
}

-- a cursor missed the token that is wanted
pub missed : {part : Part} {terminal : Terminal} {a : Point} {old new : Position} {f : Seen → Plan (Value part)} →
    Reaches part a (Token terminal f) old.point → Misses terminal old new → Stops part a new.point
missed {part = part} {a = a} r m = subst (λ at. Stops part a at.point) (sym m.stays) (stops_at r m.other)

-- and so no form begins
pub missed_first : {part : Part} {terminal : Terminal} {old new : Position} → Misses terminal old new →
    start part (look old.point.left) ≡ None → empty part ≡ None → Stops part old.point new.point
missed_first {part = part} {old = old} m s e =
    subst (λ at. Stops part old.point at.point) (sym m.stays) (stops_first old.point s e)

-- what stands first was not missed
not_missed : {P : Type 0} {terminal : Terminal} {old new : Position} → fits (look old.point.left) terminal ≡ true → Misses terminal old new → P
not_missed e m = absurd (true_not_false (sym e ∙ m.other))

-- all tokens were taken
pub exhausts : {part : Part} {a b : Point} {plan : Plan (Value part)} → Reaches part a plan b → b.left ≡ [] → Exhausts part a
exhausts {b = b} {plan = plan} r e = record { end = b; plan = plan; ended = e; leads = r.leads }

pub exhausts_within : {part part_first : Part} {a b : Point} {f : Value part_first → Plan (Value part)} →
    Reaches part a (Call part_first f) b → Exhausts part_first b → Exhausts part a
exhausts_within {b = b} r x = exhausts (within {b = b} {c = x.end} r (record { leads = x.leads })) x.ended

-- the last token was the first of a form
pub last_start : {part : Part} {terminal : Terminal} {old : Position} (f : Seen → Plan (Value part)) →
    start part (Some terminal) ≡ Some f → TakesLast terminal old → Exhausts part old.point
last_start f s l = exhausts (starts f s l.takes) l.ended

-- why reading stopped, for the part around
stopped : {P Q L M : Type 0} {old now : Ending} {stop : Stop} → now ≡ old → (P → Q) → (L → M) → Stopped P L now stop → Stopped Q M old stop
stopped e f g (by_form p) = by_form (f p)
stopped e f g (by_token fault h l) = by_token fault (sym e ∙ h) (g l)
stopped e f g by_memory = by_memory

-- What is handed on by a call that stopped: it was to read a part that is wanted; a token that is wanted; the first token
-- of the only form; a token that is known to stand first; or memory ran out.
pub exit : {T P Q L M : Type 0} {old now : Ending} {given : Stop} (r : Result T Stop) → IsErrAnd r (λ stop. stop ≡ given) →
    now ≡ old → (P → Q) → (L → M) → Stopped P L now given → IfErr r (Stopped Q M old)
exit {Q = Q} {M = M} {old = old} r e same f g h =
    let p = err_from_is_err_and r e in
    subst (λ x. IfErr x (Stopped Q M old)) (sym p.1) (subst (Stopped Q M old) (sym p.2) (stopped same f g h))

pub exit_within : {T : Type 0} {part part_first : Part} {a b c : Point} {f : Value part_first → Plan (Value part)}
    {old now : Ending} {given : Stop} (r : Result T Stop) → IsErrAnd r (λ stop. stop ≡ given) → now ≡ old →
    Reaches part a (Call part_first f) b → Stopped (Stops part_first b c) (Exhausts part_first b) now given →
    IfErr r (Stopped (Stops part a c) (Exhausts part a) old)
exit_within r e same reached h = exit r e same (stops_within reached) (exhausts_within reached) h

pub exit_missed : {T : Type 0} {part : Part} {terminal : Terminal} {a : Point} {before after : Position}
    {f : Seen → Plan (Value part)} {old now : Ending} {given : Stop} (r : Result T Stop) → IsErrAnd r (λ stop. stop ≡ given) →
    now ≡ old → Reaches part a (Token terminal f) before.point →
    Stopped (Misses terminal before after) (TakesLast terminal before) now given →
    IfErr r (Stopped (Stops part a after.point) (Exhausts part a) old)
exit_missed r e same reached h =
    exit r e same (missed reached) (λ l. exhausts (by_terminal reached l.takes) l.ended) h

pub exit_first : {T : Type 0} (part : Part) {terminal : Terminal} {before after : Position} {old now : Ending} {given : Stop}
    (f : Seen → Plan (Value part)) → start part (Some terminal) ≡ Some f →
    (fits (look before.point.left) terminal ≡ false → start part (look before.point.left) ≡ None) → empty part ≡ None →
    (r : Result T Stop) → IsErrAnd r (λ stop. stop ≡ given) → now ≡ old →
    Stopped (Misses terminal before after) (TakesLast terminal before) now given →
    IfErr r (Stopped (Stops part before.point after.point) (Exhausts part before.point) old)
exit_first part f s none without r e same h =
    exit r e same (λ m. missed_first m (none m.other) without) (last_start f s) h

-- The same of a last call, whose answer is handed on as it is.
pub handed : {T P Q L M : Type 0} {old now : Ending} (r : Result T Stop) → now ≡ old → (P → Q) → (L → M) →
    IfErr r (Stopped P L now) → IfErr r (Stopped Q M old)
handed {P = P} {Q = Q} {L = L} {M = M} {old = old} {now = now} r same f g h =
    IfErr-weaker r (Stopped P L now) (Stopped Q M old) (λ _ s. stopped same f g s) h

pub handed_first : {T : Type 0} (part : Part) (terminal : Terminal) (before after : Position) {old now : Ending}
    (f : Seen → Plan (Value part)) → start part (Some terminal) ≡ Some f →
    (fits (look before.point.left) terminal ≡ false → start part (look before.point.left) ≡ None) → empty part ≡ None →
    (r : Result T Stop) → now ≡ old → IfErr r (Stopped (Misses terminal before after) (TakesLast terminal before) now) →
    IfErr r (Stopped (Stops part before.point after.point) (Exhausts part before.point) old)
handed_first part terminal before after f s none without r same h =
    handed r same (λ m. missed_first m (none m.other) without) (last_start f s) h

pub exit_sure : {T : Type 0} {part : Part} {terminal : Terminal} {a : Point} (c : Point) {before after : Position}
    {old now : Ending} {given : Stop} (r : Result T Stop) → IsErrAnd r (λ stop. stop ≡ given) → now ≡ old →
    fits (look before.point.left) terminal ≡ true → (TakesLast terminal before → Exhausts part a) →
    Stopped (Misses terminal before after) (TakesLast terminal before) now given →
    IfErr r (Stopped (Stops part a c) (Exhausts part a) old)
exit_sure c r e same sure last h = exit r e same (not_missed sure) last h

pub exit_memory : {T : Type 0} (Q M : Type 0) (old : Ending) (r : Result T Stop) (given : Stop) →
    IsErrAnd r (λ stop. stop ≡ given) → given ≡ stops.Memory → IfErr r (Stopped Q M old)
exit_memory Q M old r given e h =
    let p = err_from_is_err_and r e in
    subst (λ x. IfErr x (Stopped Q M old)) (sym p.1) (subst (Stopped Q M old) (sym (p.2 ∙ h)) by_memory)

-- a form that is not there
pub at_form : {P L : Type 0} {ending : Ending} {stop : Stop} → Stopped P L ending stop → stop ≡ stops.Form → P
at_form (by_form p) e = p
at_form (by_token fault h l) e = absurd cc
at_form by_memory e = absurd cc

-- all tokens were taken, and this fault follows
pub at_token : {P L : Type 0} {ending : Ending} {stop : Stop} (fault : SourceFault) → Stopped P L ending stop →
    stop ≡ stops.Token fault → (ending ≡ AtFault fault) × L
at_token fault (by_form p) e = absurd cc
at_token fault (by_token met h l) e =
    let same : met ≡ fault = cc in (h ∙ ap AtFault same, l)
at_token fault by_memory e = absurd cc
