-- A text has one text of replies.
use Rattle.std.proofs.Common.{◌≡◌, ℕ, List, [], ◌∷◌, ◌++◌, ℤ, Some, None, Ok, Err, codes, decimal, Option, Result, sym, refl, ap, ◌∙◌, arith}
use Rattle.std.proofs.lemmas.Bool.{both_ways}
use Rattle.exact.specs.declared.bounds.Bounds.{Bounds}
use Rattle.exact.specs.Fractions.{Fraction}
use Rattle.exact.proofs.Rounding.{rounded_one}
use Rattle.laws.specs.declared.fault.Fault.{Fault}
use Rattle.laws.specs.declared.mill.reading.Reading.{Reading}
use Rattle.laws.specs.Curves.{mill_stress}
use Rattle.laws.specs.Faults.{refusal}
use Rattle.laws.specs.Meaning.{Answers}
use Rattle.laws.specs.Rules.{ruled}
use Rattle.laws.specs.Strengths.{ConcreteGrade, YieldGrade}
use Rattle.laws.specs.Stresses.{block_stress, trapezoid_stress, yield_stress}
use Rattle.laws.proofs.Unique.{one_curve}
use Rattle.text.specs.Runs.{lines_of, pieces}
use Rattle.questions.specs.declared.law.Law.{Law}
use Rattle.questions.specs.declared.law.Law.TheVariants.{Block, Trapezoid, Yield, Mill}
use Rattle.answering.specs.declared.reply.Reply.{Reply}
use Rattle.answering.specs.declared.reply.Reply.TheVariants.{Stress, Refused, Unreadable}
use Rattle.answering.specs.Answering.{Answered, OfReadings, OfStrength, RefusedBy, paired}
use Rattle.answering.specs.Answering.OfReadings.{keeping, breaking}
use Rattle.answering.specs.Answering.OfStrength.{graded, ungraded}
use Rattle.questions.specs.Questions.{AsksNothing}
use Rattle.answering.specs.Replies.{LineAnswered, Lines, Replied, RepliedAll, reply_line, reply_text}
use Rattle.questions.proofs.Asked.{one_question}

-- an answer as a reply
abbrev told : Result Bounds Fault → Reply
told (Ok bounds) = Stress bounds
told (Err e) = Refused e

refused_one : (k : ℕ) (r s : Result Bounds Fault) → RefusedBy k r → RefusedBy k s → reply_text (told r) ≡ reply_text (told s)
refused_one k r s h g =
    let same : refusal h.0 ≡ refusal g.0 = cc in
    rw (h.1, g.1) (ap (λ k. codes "refused " ++ decimal k) same)

answers_one : (f : Fraction → Fraction) (n m : ℤ) (r s : Result Bounds Fault) → Answers f n m r → Answers f n m s → reply_text (told r) ≡ reply_text (told s)
answers_one f n m (Ok a) (Ok b) h g = ap (λ c. reply_text (Stress c)) (rounded_one h.1 g.1)
answers_one f n m (Ok a) (Err e) h g = absurd (g.0 h.0)
answers_one f n m (Err e) (Ok b) h g = absurd (h.0 g.0)
answers_one f n m (Err d) (Err e) h g = refused_one 3 (Err d) (Err e) (d, refl, h.1) (e, refl, g.1)

strength_one : (Grade : ℕ → Type 0) (stress : ℕ → Fraction → Fraction) (given n m : ℤ) (r s : Result Bounds Fault) → OfStrength Grade stress given n m r → OfStrength Grade stress given n m s → reply_text (told r) ≡ reply_text (told s)
strength_one Grade stress given n m r s (graded psi e g a) (graded phi f h b) =
    let same : phi ≡ psi = cc in
    answers_one (stress psi) n m r s a (rw same at b)
strength_one Grade stress given n m r s (graded psi e g a) (ungraded none b) = absurd (none psi e g)
strength_one Grade stress given n m r s (ungraded none a) (graded phi f h b) = absurd (none phi f h)
strength_one Grade stress given n m r s (ungraded none a) (ungraded nor b) = refused_one 1 r s a b

readings_one : (rs : List Reading) (n m : ℤ) (r s : Result Bounds Fault) → OfReadings rs n m r → OfReadings rs n m s → reply_text (told r) ≡ reply_text (told s)
readings_one rs n m r s (keeping ps e k a) (keeping qs f l b) =
    let same : qs ≡ ps = one_curve qs ps (sym f ∙ e) in
    answers_one (mill_stress ps) n m r s a (rw same at b)
readings_one rs n m r s (keeping ps e k a) (breaking l b) = absurd (both_ways (ruled rs) l k)
readings_one rs n m r s (breaking k a) (keeping qs f l b) = absurd (both_ways (ruled rs) k l)
readings_one rs n m r s (breaking k a) (breaking l b) = refused_one 2 r s a b

numbered_one : (Grade : ℕ → Type 0) (stress : ℕ → Fraction → Fraction) (zs : List ℤ) (n m : ℤ) (r s : Result Bounds Fault) → (z : ℤ) × (zs ≡ z ∷ []) × OfStrength Grade stress z n m r → (z : ℤ) × (zs ≡ z ∷ []) × OfStrength Grade stress z n m s → reply_text (told r) ≡ reply_text (told s)
numbered_one Grade stress zs n m r s h g =
    let p = h.1 in
    let q = g.1 in
    let same : g.0 ≡ h.0 = cc in
    strength_one Grade stress h.0 n m r s h.2 (rw same at g.2)

answered_one : (law : Law) (zs : List ℤ) (n m : ℤ) (r s : Result Bounds Fault) → Answered law zs n m r → Answered law zs n m s → reply_text (told r) ≡ reply_text (told s)
answered_one Block zs n m r s h g = numbered_one ConcreteGrade block_stress zs n m r s h g
answered_one Trapezoid zs n m r s h g = numbered_one ConcreteGrade trapezoid_stress zs n m r s h g
answered_one Yield zs n m r s h g = numbered_one YieldGrade yield_stress zs n m r s h g
answered_one Mill zs n m r s h g = readings_one (paired zs) n m r s h g

-- one answer of one question
line_one : (line : List ℕ) (r s : Result Bounds Fault) → LineAnswered line r → LineAnswered line s → reply_text (told r) ≡ reply_text (told s)
line_one line r s a b =
    let q = one_question (pieces line) b.law a.law b.numbers a.numbers b.n b.m a.n a.m b.asks a.asks in
    answered_one a.law a.numbers a.n a.m r s a.answered (rw (q.0, q.1, q.2, q.3) at b.answered)

-- what is printed for a line, by the three kinds of lines
data Said (line bytes : List ℕ) : Type 0 where
  blank : pieces line ≡ [] → bytes ≡ [] → Said line bytes
  nothing : (pieces line ≡ [] → ⊥) → AsksNothing (pieces line) → bytes ≡ reply_line (Some Unreadable) → Said line bytes
  answer : (r : Result Bounds Fault) → LineAnswered line r → bytes ≡ reply_line (Some (told r)) → Said line bytes

said : (line bytes : List ℕ) (o : Option Reply) → Replied line o → bytes ≡ reply_line o → Said line bytes
said line bytes None h e = blank h e
said line bytes (Some (Stress bounds)) h e = answer (Ok bounds) h e
said line bytes (Some (Refused d)) h e = answer (Err d) h e
said line bytes (Some Unreadable) h e = nothing h.0 h.1 e

not_blank : (line : List ℕ) (r : Result Bounds Fault) → LineAnswered line r → pieces line ≡ [] → ⊥
not_blank line r a e = let p = a.asks.cut in let z : ◌≡◌ {A = ℕ} 0 1 = cc in omega arith

said_one : (line xs ys : List ℕ) → Said line xs → Said line ys → xs ≡ ys
said_one line xs ys (blank n e) (blank o f) = e ∙ sym f
said_one line xs ys (blank n e) (nothing some k f) = absurd (some n)
said_one line xs ys (blank n e) (answer r a f) = absurd (not_blank line r a n)
said_one line xs ys (nothing some k e) (blank n f) = absurd (some n)
said_one line xs ys (nothing some k e) (nothing any l f) = e ∙ sym f
said_one line xs ys (nothing some k e) (answer r a f) = absurd (k _ _ _ _ a.asks)
said_one line xs ys (answer r a e) (blank n f) = absurd (not_blank line r a n)
said_one line xs ys (answer r a e) (nothing some k f) = absurd (k _ _ _ _ a.asks)
said_one line xs ys (answer r a e) (answer s b f) = e ∙ (ap (λ t. t ++ codes "\n") (line_one line r s a b) ∙ sym f)

lines_one : (ls : List (List ℕ)) (xs ys : List ℕ) → Lines ls xs → Lines ls ys → xs ≡ ys
unfolding Lines
lines_one [] xs ys h g = h ∙ sym g
lines_one (l ∷ ls) xs ys h g =
    let x = h.3 in
    let y = g.3 in
    let first = said_one l h.0 g.0 (said l h.0 x.0 x.1 x.2) (said l g.0 y.0 y.1 y.2) in
    let rest = lines_one ls h.1 g.1 h.4 g.4 in
    h.2 ∙ (ap (λ t. t ++ h.1) first ∙ (ap (λ t. g.0 ++ t) rest ∙ sym g.2))

pub replies_one : (text replies : List ℕ) → RepliedAll text replies → (bytes : List ℕ) → RepliedAll text bytes → bytes ≡ replies
replies_one text replies h bytes g = lines_one (lines_of text) bytes replies g h
