use Rattle.yaml_chars.proofs.Common.{ap, chars, false, length, refl, sym, take, ◌++◌, ◌∙◌, ◌≡◌}
use Rattle.yaml_chars.proofs.WordsLemmas.{front, Gives-on, Stands-on, words_cut, words_cut_known, words_known}
use Rattle.yaml_chars.proofs.source.Source.pass_words.Goals as goal

pub range-words-requires-clause-end_boundary : goal.range-words-requires-clause-end_boundary
range-words-requires-clause-end_boundary g c =
    words_cut c.args.run c.as_bytes.ensures.value c.known-known.ensures c.known-known.utf8 c.words-found.ensures.words
    (c.words-found.ensures.ends c.if-found-eq0.false)

pub pass-requires-clause-cut : goal.pass-requires-clause-cut
pass-requires-clause-cut g c =
    words_cut_known c.args.run c.as_bytes.ensures.value c.known-known.ensures c.known-known.utf8 c.words-found.ensures.words
    (c.words-found.ensures.ends c.if-found-eq0.false)

pub invariant_of-self : goal.invariant_of-self
invariant_of-self g c =
    let going : c.self.inside.done ≡ false = rw (← c.self.view_is) at (sym c.has_ended.ensures.value ∙ c.if-has_ended.false) in
    let ready = c.self.invariant.ready going in
    Stands-on c.self.invariant going _ (c.push_text.ensures ∙ ap (λ x. c.self.inside.taken.items ++ chars x)
    (front _ c.range-words.ensures.value c.known-known.ensures))
    _ c.pass.ensures.gives (c.pass.ensures.can, (c.pass.ensures.goes ready.1).0)

pub returns : goal.returns
returns g c =
    let going : c.self.inside.done ≡ false = rw (← c.self.view_is) at (sym c.has_ended.ensures.value ∙ c.if-has_ended.false) in
    let piece = front _ c.range-words.ensures.value c.known-known.ensures in (
      chars (take c.words-found.result.end (g.T.Characters.known c.self.inside.iter)),
      rw (← c.self.view_is) record {
        part = chars (take c.words-found.result.end (g.T.Characters.known c.self.inside.iter));
        count = sym (c.character_count-count.ensures ∙ ap (λ x. length (chars x)) piece);
        words = words_known c.args.run c.as_bytes.ensures.value c.known-known.ensures c.known-known.utf8 c.words-found.ensures.words
            (c.words-found.ensures.ends c.if-found-eq0.false);
        gives = Gives-on c.self.invariant going _ (c.push_text.ensures
            ∙ ap (λ x. c.self.inside.taken.items ++ chars x) piece) _ c.pass.ensures.goes;
        text = refl;
      },
    )
