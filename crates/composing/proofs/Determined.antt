-- A text asks for one stream alone.
use Rattle.std.proofs.Common.{◌≡◌, ℕ, zero, suc, List, [], ◌∷◌, ◌++◌, ℤ, pos, Some, Ok, Err, sym, refl, ap, ◌∙◌, subst, inl, inr, arith}
use Rattle.words.specs.declared.entry.Entry.{Entry}
use Rattle.words.specs.declared.entry.Entry.TheVariants as entry
use Rattle.words.specs.declared.kind.Kind.{Kind}
use Rattle.words.specs.declared.kind.Kind.TheVariants.{Open, Lay, Place, Lift, Axial, Moment, Solve}
use Rattle.words.specs.Kinds.{kind_of, name_of}
use Rattle.words.specs.Lines.{Labelled, labelled, numbers_of}
use Rattle.words.specs.Words.{Stands}
use Rattle.words.proofs.Unique.{one_word}
use Rattle.composing.specs.declared.expected.Expected.{Expected}
use Rattle.composing.specs.declared.expected.Expected.TheVariants.{Name, Numbers, Fit}
use Rattle.composing.specs.Asking.{Answered, Lacks}
use Rattle.composing.specs.Composing.{Asked}
use Rattle.text.specs.Figures.{Figures}
use Rattle.text.proofs.Readings.{one_number}
use Rattle.composing.specs.Spelling as spelling
use Rattle.composing.specs.Spelling.{Spells}
use Rattle.composing.proofs.Spelt.{one_kind}

one_numbers : (ns ms : List Labelled) (ps : List (List ℕ)) → spelling.Numbers ns ps → spelling.Numbers ms ps → ns ≡ ms
one_numbers [] [] ps h g = refl
one_numbers [] (m ∷ ms) ps h g =
    let e : [] ≡ m.label ∷ g.1.0 ∷ g.0 = sym h ∙ g.1.1 in
    let z : ◌≡◌ {A = ℕ} 0 1 = cc in
    absurd (omega arith)
one_numbers (n ∷ ns) [] ps h g =
    let e : [] ≡ n.label ∷ h.1.0 ∷ h.0 = sym g ∙ h.1.1 in
    let z : ◌≡◌ {A = ℕ} 0 1 = cc in
    absurd (omega arith)
one_numbers (n ∷ ns) (m ∷ ms) ps h g =
    let p = h.1.1 in
    let q = g.1.1 in
    let labels : n.label ≡ m.label = cc in
    let figures : h.1.0 ≡ g.1.0 = cc in
    let rests : h.0 ≡ g.0 = cc in
    let values : n.value ≡ m.value = one_number g.1.0 _ _ (subst (λ a. Figures a n.value) figures h.1.2) g.1.2 in
    let more : ns ≡ ms = one_numbers ns ms g.0 (subst (spelling.Numbers ns) rests h.2) g.2 in
    let first : labelled n.label n.value ≡ labelled m.label m.value = cc in
    cc

-- the value at a place of labelled numbers
abbrev value_at : List Labelled → ℕ → ℤ
value_at [] i = pos 0
value_at (n ∷ ns) zero = n.value
value_at (n ∷ ns) (suc i) = value_at ns i

-- an entry by its kind and its numbers
abbrev entry_from : Kind → List Labelled → Entry
entry_from Open ns = entry.Open (value_at ns 0) (value_at ns 1)
entry_from Lay ns = entry.Lay (value_at ns 0) (value_at ns 1)
entry_from Place ns = entry.Place (value_at ns 0) (value_at ns 1) (value_at ns 2)
entry_from Lift ns = entry.Lift (value_at ns 0)
entry_from Axial ns = entry.Axial (value_at ns 0)
entry_from Moment ns = entry.Moment (value_at ns 0) (value_at ns 1)
entry_from Solve ns = entry.Solve

entry_from_lem : (e : Entry) → entry_from (kind_of e) (numbers_of e) ≡ e
entry_from_lem (entry.Open fc fy) = refl
entry_from_lem (entry.Lay thickness width) = refl
entry_from_lem (entry.Place bar count depth) = refl
entry_from_lem (entry.Lift row) = refl
entry_from_lem (entry.Axial pu) = refl
entry_from_lem (entry.Moment member mu) = refl
entry_from_lem entry.Solve = refl

one_spelt : (ps : List (List ℕ)) (e f : Entry) → Spells ps e → Spells ps f → e ≡ f
one_spelt ps e f h g =
    let p = h.1 in
    let q = g.1 in
    let names : name_of (kind_of e) ≡ name_of (kind_of f) = cc in
    let rests : h.0 ≡ g.0 = cc in
    let kinds = one_kind (kind_of e) (kind_of f) names in
    let numbers = one_numbers (numbers_of e) (numbers_of f) g.0 (subst (spelling.Numbers (numbers_of e)) rests h.2) g.2 in
    sym (entry_from_lem e) ∙ ap (λ k. entry_from k (numbers_of e)) kinds ∙ ap (entry_from (kind_of f)) numbers ∙ entry_from_lem f

-- pieces that spell an entry which has a word lack nothing
spelt_lacks : (ps : List (List ℕ)) (e : Entry) (w : ℕ) (x : Expected) → Spells ps e → Stands e w → Lacks ps x → ⊥
spelt_lacks ps e w Name h s l = l (kind_of e) h.0 h.1
spelt_lacks ps e w (Numbers k) h s l = l.1 e h
spelt_lacks ps e w (Fit k) h s l = l.3 w (subst (λ f. Stands f w) (one_spelt ps e l.0 h l.2) s)

one_answer : (line : List ℕ) (w v : ℕ) → Answered line (Ok (Some w)) → Answered line (Ok (Some v)) → w ≡ v
one_answer line w v h g =
    one_word g.1.0 w v (subst (λ f. Stands f w) (one_spelt _ h.1.0 g.1.0 h.1.1 g.1.1) h.1.2) g.1.2

pub one_asked : (ls : List (List ℕ)) (ws vs : List ℕ) → Asked ls ws → Asked ls vs → ws ≡ vs
unfolding Asked
one_asked [] ws vs h g = h ∙ sym g
one_asked (l ∷ ls) ws vs h g =
    elim h [
      | inl a ↦ elim g [ inl b ↦ one_asked ls ws vs a.1 b.1 | inr b ↦ absurd (b.3.0 a.0) ]
      | inr a ↦ elim g [
        | inl b ↦ absurd (a.3.0 b.0)
        | inr b ↦ a.2 ∙ ap (λ n. n ∷ a.1) (one_answer l a.0 b.0 a.3 b.3) ∙ ap (λ us. b.0 ∷ us) (one_asked ls a.1 b.1 a.4 b.4) ∙ sym b.2
      ]
    ]

-- and where it asks for one, no line lacks anything
pub nothing_lacks : (before after : List (List ℕ)) (line ws : List ℕ) (x : Expected) → Asked (before ++ (line ∷ after)) ws → Answered line (Err x) → ⊥
unfolding Asked
nothing_lacks [] after line ws x h l =
    elim h [ inl a ↦ l.0 a.0 | inr a ↦ spelt_lacks _ a.3.1.0 a.0 x a.3.1.1 a.3.1.2 l.1 ]
nothing_lacks (b ∷ before) after line ws x h l =
    elim h [ inl a ↦ nothing_lacks before after line ws x a.1 l | inr a ↦ nothing_lacks before after line a.1 x a.4 l ]
