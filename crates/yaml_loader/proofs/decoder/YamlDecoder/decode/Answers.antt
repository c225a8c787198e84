use Rattle.yaml_loader.proofs.Common.{Err, Global, List, Ok, Result, string_chars, Vec, Yaml, ℕ}
use Rattle.yaml_encoding.specs.Decoding.{Outcome, text}
use Rattle.yaml_loader.specs.declared.decoder.LoadError.{LoadError}
use Rattle.yaml_loader.specs.declared.decoder.LoadError.TheVariants.{IO, Scan, Decode}
use Rattle.yaml_loader.specs.Read.{DecodedIs, Loads, LoadedIs}
use Rattle.yaml_loader.proofs.decoder.YamlDecoder.decode.Goals as goal

-- What was not decoded is not loaded.
not_decoded : (e : LoadError) (P : Outcome → Type 0) → DecodedIs (Err e) P → LoadedIs (Err e) P
not_decoded (IO e) P h = tt
not_decoded (Scan f) P h = absurd h
not_decoded (Decode m) P h = h

-- What was decoded is loaded.
decoded : (r : Result (Vec Yaml Global) LoadError) (characters : List ℕ) (P : Outcome → Type 0) → P (text characters) → Loads characters r → LoadedIs r P
decoded (Ok documents) characters P h l = (characters, h, l)
decoded (Err (Scan f)) characters P h l = (characters, h, l)
decoded r characters P h l = absurd l

pub returns-in-Err-clause-call : goal.returns-in-Err-clause-call
returns-in-Err-clause-call g c f e = not_decoded c.in-Err.error _ (c.in-Err.ensures.call f e)

pub returns-in-Ok-clause-ignore : goal.returns-in-Ok-clause-ignore
returns-in-Ok-clause-ignore g c = λ e. decoded c.load.result (string_chars c.in-Ok.text) _ (c.in-Ok.ensures.ignore e) c.load.ensures

pub returns-in-Ok-clause-replace : goal.returns-in-Ok-clause-replace
returns-in-Ok-clause-replace g c = λ e. decoded c.load.result (string_chars c.in-Ok.text) _ (c.in-Ok.ensures.replace e) c.load.ensures

pub returns-in-Ok-clause-strict : goal.returns-in-Ok-clause-strict
returns-in-Ok-clause-strict g c = λ e. decoded c.load.result (string_chars c.in-Ok.text) _ (c.in-Ok.ensures.strict e) c.load.ensures

pub returns-in-Ok-clause-call : goal.returns-in-Ok-clause-call
returns-in-Ok-clause-call g c f e = decoded c.load.result (string_chars c.in-Ok.text) _ (c.in-Ok.ensures.call f e) c.load.ensures
