-- A word stands for at most one entry, and an entry has at most one word; so the reader and the writer undo each other.
use Rattle.std.proofs.Common.{◌≡◌, ℕ, ◌+◌, ◌*◌, ◌/◌, ◌%◌, ◌^◌, Ok, Err, Result, sym, ap, ◌∙◌, subst, rules, arith}
use borrow.Author.Differences.{ints}
use Rattle.std.proofs.lemmas.Nat.{mod-pow-add, div-add-mod', shr-shr}
use Rattle.section.proofs.Distinct.{one_position}
use Rattle.words.specs.declared.entry.Entry.{Entry}
use Rattle.words.specs.declared.entry.Entry.TheVariants.{Open, Lay, Place, Lift, Axial, Moment, Solve}
use Rattle.words.specs.declared.fault.Fault.{Fault}
use Rattle.words.specs.Kinds.{kind_of}
use Rattle.words.specs.Words.{code_of, kind, Stands, Read, Written, OneEntry, OneWord, bits}

pub kind_stands : (e : Entry) (w : ℕ) → Stands e w → kind w ≡ code_of (kind_of e)
kind_stands e w h = search rules

pub one_entry : (e f : Entry) (w : ℕ) → Stands e w → Stands f w → e ≡ f
one_entry e f w h g = grind (arith, ints)

-- a number is what is above its lowest j + k bits, the j bits above the lowest k, and those k
parts : (v j k : ℕ) → v ≡ v / 2 ^ (j + k) * 2 ^ (j + k) + ((v / 2 ^ k % 2 ^ j) * 2 ^ k + v % 2 ^ k)
parts v j k = omega (arith, mod-pow-add v j k, div-add-mod' v (2 ^ (j + k)))

same_parts : (v w j k : ℕ) → v / 2 ^ (j + k) ≡ w / 2 ^ (j + k) → v / 2 ^ k % 2 ^ j ≡ w / 2 ^ k % 2 ^ j → v % 2 ^ k ≡ w % 2 ^ k → v ≡ w
same_parts v w j k above between below =
    let p = parts v j k in
    let q = parts w j k in
    grind arith

-- the upper field of a place: the four bits that are zero, the bar's position, the count
upper_of_place : (v : ℕ) → bits v 27 14 ≡ (bits v 27 24 * 2 ^ 4 + bits v 23 20) * 2 ^ 6 + bits v 19 14
upper_of_place v =
    let m = rw (shr-shr v 14 6) at (mod-pow-add (v / 2 ^ 14) 8 6) in
    let n = rw (shr-shr v 20 4) at (mod-pow-add (v / 2 ^ 20) 4 4) in
    omega (arith, m, n)

pub one_word : (e : Entry) (v w : ℕ) → Stands e v → Stands e w → v ≡ w
one_word (Open fc fy) v w h g = same_parts v w 14 14 (h.0 ∙ sym g.0) (omega (arith, ints)) (omega (arith, ints))
one_word (Lay t b) v w h g = same_parts v w 14 14 (h.0 ∙ sym g.0) (omega (arith, ints)) (omega (arith, ints))
one_word (Place b n d) v w h g =
    let p : bits v 23 20 ≡ bits w 23 20 = one_position b _ _ h.2 g.2 in
    same_parts v w 14 14 (h.0 ∙ sym g.0) (omega (arith, ints, upper_of_place v, upper_of_place w)) (omega (arith, ints))
one_word (Lift r) v w h g = omega (arith, ints)
one_word (Axial p) v w h g = omega (arith, ints)
one_word (Moment m u) v w h g = same_parts v w 2 26 (h.0 ∙ sym g.0) (omega (arith, ints)) (omega (arith, ints))
one_word Solve v w h g = omega (arith, ints)

written_alone : (e : Entry) (q : Result ℕ Fault) → Written e q → (w : ℕ) → Stands e w → q ≡ Ok w
written_alone e (Ok v) k w s = ap Ok (one_word e v w k s)
written_alone e (Err f) k w s = absurd (k.0 w s)

read_alone : (w : ℕ) (r : Result Entry Fault) → Read w r → (e : Entry) → Stands e w → r ≡ Ok e
read_alone w (Ok f) h e s = ap Ok (one_entry f e w h s)
read_alone w (Err f) h e s = absurd (h.0 e s)

pub one_entry_read : (w : ℕ) (r : Result Entry Fault) → Read w r → OneEntry w r
one_entry_read w r h =
    record {
      alone = read_alone w r h;
      written_back = λ e q k i. written_alone e q k w (subst (Read w) i h);
      read_back = λ e q k i. read_alone w r h e (subst (Written e) i k);
    }

pub one_word_written : (e : Entry) (q : Result ℕ Fault) → Written e q → OneWord e q
one_word_written e q k =
    record {
      alone = written_alone e q k;
      read_back = λ w r h i. (one_entry_read w r h).read_back e q k i;
      written_back = λ w r h i. (one_entry_read w r h).written_back e q k i;
    }
