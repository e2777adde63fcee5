-- What is written over a part of the table. Assumes nothing.
use mathlib.Core.Path.{◌≡◌, refl, sym, ap, ◌∙◌}
use mathlib.Core.List.{List, [], ◌∷◌, ◌++◌}
use Prim.Native.Nat.{ℕ, zero, suc, ◌+◌, ◌*◌, ◌/◌, ◌≤◌, ◌<◌}
use native.Mathlib.Omega.{arith}
use borrow.Rule.Slice.PartMut.{put_mid}
use lib.ListN.{length, take, drop, get_or}
use lib.Seq.{drop-cons}
use Rattle.rules.specs.Over.{over}
use Rattle.rules.proofs.Over.{over_start}
use Rattle.grammar.specs.Nodes.{role_number, node_words, word_at}
use Rattle.moves.specs.declared.Role.{Role}
use Rattle.moves.specs.Means.{role_of}
use Rattle.table.specs.declared.Entry.{Entry}
use Rattle.table.specs.Over.{entry_words, Stored}

-- a part that is replaced
pub over_mid : (t : List ℕ) (k n : ℕ) (ws : List ℕ) → n ≡ length ws → k + n ≤ length t → put_mid k n t ws ≡ over t k ws
over_mid t zero n ws e h = sym (over_start t ws n e (omega (arith, h)))
over_mid [] (suc k) n ws e h = absurd (omega (arith, h))
over_mid (x ∷ t) (suc k) n ws e h = ap (λ (l : List ℕ). x ∷ l) (over_mid t k n ws e (omega (arith, h)))

-- a part between two others
pub over_between : (t : List ℕ) (k m : ℕ) (ws : List ℕ) → m ≡ k + length ws → m ≤ length t → take k t ++ ws ++ drop m t ≡ over t k ws
over_between t zero m ws e h = sym (over_start t ws m (omega (arith, e)) h)
over_between [] (suc k) m ws e h = absurd (omega (arith, e, h))
over_between (x ∷ t) (suc k) zero ws e h = absurd (omega (arith, e))
over_between (x ∷ t) (suc k) (suc m) ws e h = ap (λ (r : List ℕ). x ∷ r) (over_between t k m ws (omega (arith, e)) (omega (arith, h)))

-- a node's words, one by one
next_word : (t : List ℕ) (k j n : ℕ) → j ≡ suc k → k < length t → take (suc n) (drop k t) ≡ get_or t k 0 ∷ take n (drop j t)
next_word t k j n e h = ap (take (suc n)) (drop-cons t k 0 h) ∙ ap (λ (i : ℕ). get_or t k 0 ∷ take n (drop i t)) (sym e)

pub words_at : (t : List ℕ) (i : ℕ) → (i + 1) * node_words ≤ length t →
    take 7 (drop (i * node_words) t) ≡ word_at t i 0 ∷ word_at t i 1 ∷ word_at t i 2 ∷ word_at t i 3 ∷ word_at t i 4 ∷ word_at t i 5 ∷ word_at t i 6 ∷ []
words_at t i h =
    let k = i * node_words in
    ap (λ (j : ℕ). take 7 (drop j t)) (omega arith)
    ∙ next_word t (k + 0) (k + 1) 6 (omega arith) (omega (arith, h))
    ∙ ap (λ (l : List ℕ). word_at t i 0 ∷ l) (next_word t (k + 1) (k + 2) 5 (omega arith) (omega (arith, h))
    ∙ ap (λ (l : List ℕ). word_at t i 1 ∷ l) (next_word t (k + 2) (k + 3) 4 (omega arith) (omega (arith, h))
    ∙ ap (λ (l : List ℕ). word_at t i 2 ∷ l) (next_word t (k + 3) (k + 4) 3 (omega arith) (omega (arith, h))
    ∙ ap (λ (l : List ℕ). word_at t i 3 ∷ l) (next_word t (k + 4) (k + 5) 2 (omega arith) (omega (arith, h))
    ∙ ap (λ (l : List ℕ). word_at t i 4 ∷ l) (next_word t (k + 5) (k + 6) 1 (omega arith) (omega (arith, h))
    ∙ ap (λ (l : List ℕ). word_at t i 5 ∷ l) (next_word t (k + 6) (k + 7) 0 (omega arith) (omega (arith, h))))))))

pub stored : (t : List ℕ) (i : ℕ) (e : Entry) {ws : List ℕ} {n : ℕ} → i < length t / node_words → ws ≡ entry_words e → n ≡ 7 →
    Stored t (put_mid (i * node_words) n t ws) i (entry_words e)
stored t i e {ws} {n} h q m =
    record {
      fits = λ f. over_mid t (i * node_words) n ws (m ∙ sym (ap length q)) (omega (arith, h, m)) ∙ ap (over t (i * node_words)) q;
      else = λ f. absurd (omega (arith, h, f));
    }

-- ---- roles

pub root_number : (r : Role) → role_number (role_of r) ≡ 0 → r ≡ Role.Root
root_number Role.Root e = refl
root_number Role.This e = absurd (omega arith)
root_number Role.ThatAfter e = absurd (omega arith)
root_number Role.ThatBefore e = absurd (omega arith)
root_number Role.Name e = absurd (omega arith)
root_number Role.Value e = absurd (omega arith)
root_number Role.Count e = absurd (omega arith)
root_number Role.Low e = absurd (omega arith)
root_number Role.High e = absurd (omega arith)
root_number Role.Single e = absurd (omega arith)

pub number_root : (r : Role) → r ≡ Role.Root → role_number (role_of r) ≡ 0
number_root r e = ap (λ (x : Role). role_number (role_of x)) e
