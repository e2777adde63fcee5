-- Laid out anew twice is laid out anew. Assumes nothing.
use mathlib.Core.Path.{◌≡◌, refl, sym, subst, ◌∙◌}
use mathlib.Core.List.{List, [], ◌∷◌, ◌++◌}
use Prim.Native.Nat.{ℕ}
use lib.ListN.{take, drop}
use Rattle.lexicon.proofs.Determined.{one_front}
use Rattle.layout.specs.Relaid.{Alike, ends, same_byte, same_quotes, stretch, Relaid}
use Rattle.layout.proofs.Cut.{none_first, byte_first, quotes_first, stretch_first}
use Rattle.layout.proofs.Back.{no_blank, front_there}

-- the middle text is cut for both alike
pub alike_joined : {s t u : List ℕ} → Alike s t → Alike t u → Alike s u
alike_joined ends c = subst (Alike []) (sym (none_first c refl)) ends
alike_joined (same_byte {b = b} {s = s} {t = t} i a) c =
    let p = byte_first b t i c refl in
    subst (Alike (b ∷ s)) (sym p.is) (same_byte i (alike_joined a p.alike))
alike_joined (same_quotes {q = q} {s = s} {t = t} m a) c =
    let p = quotes_first t m c refl in
    subst (Alike (q ++ s)) (sym p.is) (same_quotes m (alike_joined a p.alike))
alike_joined (stretch {a = x} {s = s} {t = t} m f n a) c =
    let p = stretch_first t n (no_blank a f) c refl in
    subst (Alike (x ++ s)) (sym p.is) (stretch m f p.matches (alike_joined a p.alike))

pub relaid_joined : {a b c : List ℕ} → Relaid a b → Relaid b c → Relaid a c
relaid_joined {a} {b} {c} r q =
    let e : q.start ≡ r.start = one_front b q.front (front_there r) in
    record {
      start = r.start;
      front = r.front;
      same_front = subst (λ (n : ℕ). take n c ≡ take n b) e q.same_front ∙ r.same_front;
      behind = alike_joined r.behind (subst (λ (n : ℕ). Alike (drop n b) (drop n c)) e q.behind);
    }
