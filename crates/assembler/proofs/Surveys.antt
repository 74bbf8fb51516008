-- The lines of a text, one line on.
use Rattle.std.proofs.Common.{◌≡◌, ℕ, suc, ◌+◌, List, ◌∷◌, map, Ok, Err, Result, sym, refl, ap, ◌∙◌, add-one}
use Rattle.program.specs.declared.fault.AssemblyCause.{AssemblyCause}
use Rattle.syntax.specs.Forms.{Form, form}
use Rattle.assembler.specs.declared.lists.Lists.{Lists}
use Rattle.assembler.specs.declared.tally.Tally.{Tally}
use Rattle.assembler.specs.Progress.{KeptBoth, Stepped, stepped}
use Rattle.assembler.specs.Survey.{Step, Survey, step, survey, go, stop}
use Rattle.assembler.proofs.Clips.{kept_then}

-- the same lists
pub both_then : (a b c : Lists) → KeptBoth a b → KeptBoth b c → KeptBoth a c
both_then a b c p q = record {
  labels = kept_then a.labels.now b.labels.now c.labels.now p.labels q.labels;
  units = kept_then a.units.now b.units.now c.units.now p.units q.units;
  labels_at = q.labels_at ∙ p.labels_at;
  units_at = q.units_at ∙ p.units_at;
}

-- a refusal
pub refused : (a b : Lists) (t : Tally) (r : Result Tally AssemblyCause) (c d : AssemblyCause) (w : Step) → r ≡ Err d → d ≡ c → stop c ≡ w → KeptBoth a b → Stepped a b t r w
refused a b t (Ok u) c d w e f g k = absurd (no_ok u d e)
  where
    no_ok : (u : Tally) (d : AssemblyCause) → Ok u ≡ Err d → ⊥
    no_ok u d q = cc
refused a b t (Err x) c d w e f g k = record { step = ap (λ r. stepped r b) e ∙ ap stop f ∙ g; kept = k; grows = tt }

survey_on : (l u k : ℕ) (s t : Survey) (f : Form) (fs : List Form) → step l u s f ≡ go t → survey l u k s (f ∷ fs) ≡ survey l u (suc k) t fs
survey_on l u k s t f fs e = rw (e, survey) refl

module _ (l u k : ℕ) (s : Survey) (line : List ℕ) (now after : List (List ℕ)) (e : now ≡ line ∷ after) where
  -- a line that is taken, and the lines after it
  pub survey_more : (t : Survey) → go t ≡ step l u s (form line) → survey l u (k + 1) t (map form after) ≡ survey l u k s (map form now)
  survey_more t f = sym (ap (λ ls. survey l u k s (map form ls)) e ∙ survey_on l u k s t (form line) (map form after) (sym f) ∙ ap (λ j. survey l u j t (map form after)) (sym (add-one k)))
