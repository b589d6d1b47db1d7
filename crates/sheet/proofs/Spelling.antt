-- A field that was read is written where it stands.
use Rattle.std.proofs.Common.{◌≡◌, ℕ, zero, suc, ◌+◌, ◌/◌, ◌%◌, ◌<◌, ◌≤◌, List, [], ◌∷◌, ◌++◌, length, get_or, take, drop, sym, refl, ap, ◌∙◌, arith, drop-drop, take-add}
use Rattle.sheet.specs.declared.field.Field.{Field}
use Rattle.sheet.specs.declared.field.Field.TheVariants.{Redundant, Pair, Load, LoadHat, Forward, Inverse, Add, Subtract, Multiply, Refresh, Clear, Release, Strike}
use Rattle.sheet.specs.Bytes.{part, Part, two_at, four_at}
use Rattle.sheet.specs.Reads.{mark, width, Loaded, Masked, Three, Content, Reads}
use Rattle.sheet.specs.Written.{in_two, body, written}

abbrev pub Bytes : List ℕ → Type 0
Bytes sheet = (i : ℕ) → get_or sheet i 0 < 256

step : (sheet : List ℕ) (k n : ℕ) → k < length sheet → take (suc n) (drop k sheet) ≡ get_or sheet k 0 ∷ take n (drop (suc k) sheet)
step [] k n h = absurd (omega arith)
step (x ∷ xs) zero n h = refl
step (x ∷ xs) (suc k) n h = step xs k n (omega arith)

-- one byte, and what follows it
byte : (sheet : List ℕ) (k m n : ℕ) (rest : List ℕ) → k < length sheet → m ≡ k + 1 → part sheet m n ≡ rest → part sheet k (suc n) ≡ get_or sheet k 0 ∷ rest
byte sheet k m n rest h e r =
    let f : suc k ≡ m = omega arith in
    step sheet k n h ∙ ap (λ j. get_or sheet k 0 ∷ take n (drop j sheet)) f ∙ ap (λ (xs : List ℕ). get_or sheet k 0 ∷ xs) r

-- two bytes, and what follows them
pair : (sheet : List ℕ) → Bytes sheet → (k m n : ℕ) (rest : List ℕ) → k + 1 < length sheet → m ≡ k + 2 → part sheet m n ≡ rest
    → part sheet k (suc (suc n)) ≡ in_two (two_at sheet k) ++ rest
pair sheet b k m n rest h e r =
    let high : get_or sheet k 0 ≡ two_at sheet k / 256 = omega (arith, b (k + 1)) in
    let low : get_or sheet (k + 1) 0 ≡ two_at sheet k % 256 = omega (arith, b (k + 1)) in
    byte sheet k (k + 1) (suc n) (get_or sheet (k + 1) 0 ∷ rest) (omega arith) refl (byte sheet (k + 1) m n rest h (omega arith) r)
    ∙ ap (λ x. x ∷ get_or sheet (k + 1) 0 ∷ rest) high ∙ ap (λ x. two_at sheet k / 256 ∷ x ∷ rest) low

-- two parts back to back
joined : (sheet : List ℕ) (k a b m : ℕ) (xs ys : List ℕ) → m ≡ k + a → Part sheet k a xs → Part sheet m b ys → part sheet k (a + b) ≡ xs ++ ys
joined sheet k a b m xs ys e p q =
    take-add a b (drop k sheet) ∙ ap (λ zs. take a (drop k sheet) ++ take b zs) (drop-drop a k sheet)
    ∙ ap (λ j. take a (drop k sheet) ++ take b (drop j sheet)) (sym e)
    ∙ ap (λ zs. zs ++ take b (drop m sheet)) (sym p.same) ∙ ap (λ zs. xs ++ zs) (sym q.same)

loaded : (sheet : List ℕ) → Bytes sheet → (from register c : ℕ) (xs bs : List ℕ) → from + 771 ≤ length sheet → Loaded sheet from register c xs bs
    → part sheet from 771 ≡ register ∷ in_two c ++ xs ++ bs
loaded sheet b from register c xs bs h l =
    rw (l.0, l.1)
    (byte sheet from (from + 1) 770 (in_two (two_at sheet (from + 1)) ++ xs ++ bs) (omega arith) refl
    (pair sheet b (from + 1) (from + 3) 768 (xs ++ bs) (omega arith) (omega arith) (joined sheet (from + 3) 512 256 (from + 515) xs bs (omega arith) l.2 l.3)))

masked : (sheet : List ℕ) (from register : ℕ) (masks : List ℕ) → from + (1 + length masks) ≤ length sheet → Masked sheet from register masks
    → part sheet from (1 + length masks) ≡ register ∷ masks
masked sheet from register masks h l =
    let e : 1 + length masks ≡ suc (length masks) = omega arith in
    rw l.0 (ap (part sheet from) e ∙ byte sheet from (from + 1) (length masks) masks (omega arith) refl (sym l.2.same))

three : (sheet : List ℕ) (from d a b : ℕ) → from + 3 ≤ length sheet → Three sheet from d a b → part sheet from 3 ≡ d ∷ a ∷ b ∷ []
three sheet from d a b h t =
    rw (t.0, t.1, t.2)
    (byte sheet from (from + 1) 2 (get_or sheet (from + 1) 0 ∷ get_or sheet (from + 2) 0 ∷ []) (omega arith) refl
    (byte sheet (from + 1) (from + 2) 1 (get_or sheet (from + 2) 0 ∷ []) (omega arith) (omega arith) (byte sheet (from + 2) (from + 3) 0 [] (omega arith) (omega arith) refl)))

one : (sheet : List ℕ) (from x : ℕ) → from + 1 ≤ length sheet → x ≡ get_or sheet from 0 → part sheet from 1 ≡ x ∷ []
one sheet from x h e = rw e (byte sheet from (from + 1) 0 [] (omega arith) refl refl)

struck : (sheet : List ℕ) → Bytes sheet → (from position word : ℕ) → from + 6 ≤ length sheet → position ≡ two_at sheet from → word ≡ four_at sheet (from + 2)
    → part sheet from 6 ≡ in_two position ++ in_two (word / 65536) ++ in_two (word % 65536)
struck sheet b from position word h e w =
    let last = from + 2 + 2 in
    let upper : word / 65536 ≡ two_at sheet (from + 2) = omega (arith, w, b last, b (last + 1)) in
    let lower : word % 65536 ≡ two_at sheet last = omega (arith, w, b last, b (last + 1)) in
    rw (e, upper, lower)
    (pair sheet b from (from + 2) 4 (in_two (two_at sheet (from + 2)) ++ in_two (two_at sheet last)) (omega arith) refl
    (pair sheet b (from + 2) last 2 (in_two (two_at sheet last)) (omega arith) refl (pair sheet b last (last + 2) 0 [] (omega arith) refl refl)))

content : (sheet : List ℕ) → Bytes sheet → (from : ℕ) (f : Field) → from + width f ≤ length sheet → Content sheet from f → part sheet from (width f) ≡ body f
content sheet b from (Redundant p t) h c = rw c.0 (pair sheet b from (from + 2) 1 (t ∷ []) (omega arith) refl (one sheet (from + 2) t (omega arith) c.1))
content sheet b from (Pair p) h c = rw c (pair sheet b from (from + 2) 0 [] (omega arith) refl refl)
content sheet b from (Load l) h c = loaded sheet b from l.register l.c l.coefficients.now l.bytes.now h c
content sheet b from (LoadHat l) h c = loaded sheet b from l.register l.c l.coefficients.now l.bytes.now h c
content sheet b from (Forward l) h c = masked sheet from l.register l.masks.now h c
content sheet b from (Inverse l) h c = masked sheet from l.register l.masks.now h c
content sheet b from (Add o) h c = three sheet from o.d o.a o.b h c
content sheet b from (Subtract o) h c = three sheet from o.d o.a o.b h c
content sheet b from (Multiply o) h c = three sheet from o.d o.a o.b h c
content sheet b from (Refresh r bs) h c = rw c.0 (byte sheet from (from + 1) 256 bs.now (omega arith) refl (sym c.1.same))
content sheet b from (Clear r) h c = one sheet from r h c
content sheet b from (Release r) h c = one sheet from r h c
content sheet b from (Strike position word) h c = struck sheet b from position word h c.0 c.1

pub spelled : (sheet : List ℕ) → Bytes sheet → (at next : ℕ) (f : Field) → Reads sheet at f next → part sheet at (3 + width f) ≡ written f
spelled sheet b at next f r =
    let inside : at + 3 + width f ≤ length sheet = omega (arith, r.after, r.inside) in
    let h = content sheet b (at + 3) f inside r.content in
    let e : 3 + width f ≡ suc (suc (suc (width f))) = omega arith in
    ap (part sheet at) e ∙ byte sheet at (at + 1) (suc (suc (width f))) (in_two (two_at sheet (at + 1)) ++ body f) (omega arith) refl
    (pair sheet b (at + 1) (at + 3) (width f) (body f) (omega arith) (omega arith) h)
    ∙ ap (λ x. x ∷ in_two (two_at sheet (at + 1)) ++ body f) r.tag ∙ ap (λ n. mark f ∷ in_two n ++ body f) r.size
