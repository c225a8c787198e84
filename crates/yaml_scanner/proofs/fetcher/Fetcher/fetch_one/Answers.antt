use Rattle.yaml_scanner.proofs.Common.{fetch, fetch_next, rules}
use Rattle.yaml_scanner.proofs.FirstFetch.{begun_does, begun_open, going}
use Rattle.yaml_scanner.proofs.NodeFollows.{fetched_as, fetched_some}
use Rattle.yaml_scanner.proofs.fetcher.Fetcher.fetch_one.Goals as goal

pub returns-then-not-self : goal.returns-then-not-self
returns-then-not-self g c =
    let e = c.fetch_stream_start.ensures in
    let does = begun_does c.args.self.now c.fetch_stream_start.new.self c.fetch_stream_start.result e.window c.if-not-self.true e.held e.err in
    let done = begun_open c.args.self.now c.fetch_stream_start.new.self c.fetch_stream_start.result c.requires.going e.held in
    let z = fetched_some c.args.self.now c.fetch_stream_start.new.self c.fetch_stream_start.result c.requires.kept c.requires.going c.requires.follows does e.run done in
    record { run = search rules; start = search rules; less = search rules; ok = z.0; err = z.1 }

pub returns : goal.returns
returns g c =
    let e = c.fetch_next.ensures in
    let does = fetched_as fetch_next fetch c.args.self.now c.fetch_next.new.self c.fetch_next.result (going c.args.self.now c.if-not-self.false) e.does in
    let z = fetched_some c.args.self.now c.fetch_next.new.self c.fetch_next.result c.requires.kept c.requires.going c.requires.follows does e.run e.done in
    record { run = search rules; start = search rules; less = search rules; ok = z.0; err = z.1 }
