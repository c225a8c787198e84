use Rattle.yaml_scanner.proofs.fetcher.Fetcher.keep.Goals as goal

pub returns-clause-follows : goal.returns-clause-follows
returns-clause-follows g c = c.requires.follows c.mark-mark.result
