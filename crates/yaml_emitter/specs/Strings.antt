-- What a `String` holds after what is written to it.
use Rattle.std.specs.Prelude.{ℕ, ◌≡◌, List, [], ◌∷◌, ◌++◌, String}
use Rattle.std.specs.List.{FoldsTo, concat}
use Rattle.std.proofs.Common.{sym, ap, ◌∙◌, append_assoc, append-nil, inl, inr}
use Rattle.defs_text.specs.Text.{string_chars}
use Rattle.yaml_emitter.specs.Writing.{Wrote, Stopped}

-- it has grown by the characters
abbrev pub HasGrown : {A : Type 0} → String A → List ℕ → String A → Type 0
HasGrown s cs t = string_chars t ≡ string_chars s ++ cs

-- it is as it was
abbrev pub HasStayed : {A : Type 0} → String A → List ℕ → String A → Type 0
HasStayed s cs t = string_chars t ≡ string_chars s

-- it has grown by a beginning of the text
pub record HasBegun {A : Type 0} (s : String A) (text : List ℕ) (t : String A) : Type 0 where
  pub written : List ℕ
  pub rest : List ℕ
  pub whole : written ++ rest ≡ text
  pub grown : HasGrown s written t

-- So it has after parts, one after another.
grown_by_parts : {A : Type 0} (s : String A) (parts : List (List ℕ)) (t : String A) → FoldsTo HasGrown s parts t → HasGrown s (concat parts) t
grown_by_parts s [] t e = ap string_chars (sym e) ∙ sym (append-nil (string_chars s))
grown_by_parts s (part ∷ parts) t p =
    grown_by_parts p.0 parts t p.2 ∙ ap (λ cs. cs ++ concat parts) p.1 ∙ append_assoc (string_chars s) part (concat parts)

pub wrote_to_string : {A : Type 0} (s : String A) (text : List ℕ) (t : String A) → Wrote HasGrown s text t → HasGrown s text t
wrote_to_string s text t p = grown_by_parts s p.parts t p.calls ∙ ap (λ cs. string_chars s ++ cs) p.whole

pub stopped_at_string : {A : Type 0} (s : String A) (text : List ℕ) (t : String A) → Stopped HasGrown HasStayed (Unit {0}) s text t → HasBegun s text t
stopped_at_string s text t p =
    let all = wrote_to_string s p.written p.at p.wrote in
    record {
      written = p.written;
      rest = p.rest;
      whole = p.whole;
      grown = elim p.end [ inl r ↦ r.refused ∙ all | inr e ↦ ap string_chars e.1 ∙ all ];
    }
