-- What a formatted text holds, and bytes that are asked for place by place.
use Rattle.std.proofs.Common.{◌≡◌, ℕ, zero, suc, ◌+◌, ◌<◌, ◌≤◌, List, [], ◌∷◌, ◌++◌, length, drop, get_or, sym, ap, ◌∙◌, append_assoc, arith}
use Rattle.std.specs.List.{slice_get, filter_map, range_with_len}
use Rattle.std.proofs.lemmas.List.{drop_all, drop_more}
use Rattle.std.proofs.lemmas.Option.{slice_get-get_or}

-- the bytes at the places of a list, from place k on, are what is left of the list there
at_places_from : (xs : List ℕ) (k n : ℕ) → k + n ≡ length xs → filter_map (λ i. slice_get xs i) (range_with_len k n) ≡ drop k xs
at_places_from xs k zero e = let h : length xs ≤ k = omega arith in sym (drop_all k xs h)
at_places_from xs k (suc n) e =
    let h : k < length xs = omega arith in
    let f : k + 1 + n ≡ length xs = omega arith in
    rw (slice_get-get_or xs k 0 h) (ap (λ l. get_or xs k 0 ∷ l) (at_places_from xs (k + 1) n f) ∙ sym (drop_more xs k 0 h))

pub at_places : (xs : List ℕ) → filter_map (λ i. slice_get xs i) (range_with_len 0 (length xs)) ≡ xs
at_places xs = at_places_from xs 0 (length xs) (omega arith)

-- shown bytes, byte 10, a text and byte 10, one after another
pub report_joined : (shown text a b bytes c d : List ℕ) → a ≡ shown → b ≡ a ++ 10 ∷ [] → bytes ≡ text → c ≡ b ++ bytes → d ≡ c ++ 10 ∷ [] → d ≡ shown ++ 10 ∷ (text ++ 10 ∷ [])
report_joined shown text a b bytes c d s p l e q =
    q
    ∙ ap (λ x. x ++ 10 ∷ []) (e ∙ ap (λ x. x ++ bytes) (p ∙ ap (λ x. x ++ 10 ∷ []) s))
    ∙ append_assoc (shown ++ 10 ∷ []) bytes (10 ∷ [])
    ∙ append_assoc shown (10 ∷ []) (bytes ++ 10 ∷ [])
    ∙ ap (λ x. shown ++ 10 ∷ (x ++ 10 ∷ [])) l
