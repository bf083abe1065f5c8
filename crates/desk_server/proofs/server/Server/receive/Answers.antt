use Rattle.std.proofs.Common.{◌≡◌, inl, refl, subst, sym}
use Rattle.desk_server.specs.Exchanges.{IsUnserved}
use Rattle.desk_server.proofs.StepsOfConnections.{broken_left, ended_left, judged_left, kept_alike, lacks_left, read_more}
use Rattle.desk_server.proofs.server.Server.receive.Goals as goal

pub returns-then-has_made_its_reads-clause-shown : goal.returns-then-has_made_its_reads-clause-shown
returns-then-has_made_its_reads-clause-shown g c =
    let before = g.T.Transport.traffic c.args.transport.now in
    broken_left c.args.self.now.terms before before c.args.connection.now c.args.connection.now c.args.connection.now.number (inl refl) refl

pub returns-in-Bytes-clause-shown : goal.returns-in-Bytes-clause-shown
returns-in-Bytes-clause-shown g c =
    let terms = c.args.self.now.terms in
    let a = g.T.Transport.traffic c.args.transport.now in
    let b = g.T.Transport.traffic c.receive.new.transport in
    let was = c.args.connection.now in
    let noted = c.note_now.ensures in
    let counted = c.count_read.ensures in
    let judged = c.judge.ensures in
    let got = c.in-Bytes.ensures in
    let d = c.judge.new.connection in
    let unserved = subst IsUnserved (sym judged.stage) counted.stage in
    let same = judged.unchanged in
    let alike : c.count_read.new.self.request.items ≡ c.receive.new.self.request.items = λ i. (counted.unchanged i).items in
    let first = judged.number in
    let second = counted.number in
    let third = c.receive.ensures.number in
    let fourth = noted.number in
    judged_left terms a b was d c.judge.result judged.whole judged.unended unserved
    (read_more terms a b was d c.in-Bytes.field-0 c.note_now.new.connection.number c.note_now.new.connection.request.items c.receive.new.self.request.items
    got.shown noted.number (λ i. (noted.unchanged i).items) (cc) unserved (cc))

pub returns-in-End-clause-shown : goal.returns-in-End-clause-shown
returns-in-End-clause-shown g c =
    let noted = c.note_now.ensures in
    let first = c.receive.ensures.number in
    let second = noted.number in
    let stage = c.receive.ensures.stage in
    let before = noted.stage in
    let same : c.receive.new.self.stage ≡ c.args.connection.now.stage = cc in
    ended_left c.args.self.now.terms (g.T.Transport.traffic c.args.transport.now) (g.T.Transport.traffic c.receive.new.transport) c.args.connection.now c.receive.new.self c.note_now.new.connection.number
    c.note_now.new.connection.request.items c.receive.new.self.request.items c.in-End.ensures.shown noted.number (λ i. (noted.unchanged i).items) refl (λ u. subst IsUnserved (sym same) u) (cc)

pub returns-in-Nothing-clause-shown : goal.returns-in-Nothing-clause-shown
returns-in-Nothing-clause-shown g c =
    let terms = c.args.self.now.terms in
    let a = g.T.Transport.traffic c.args.transport.now in
    let b = g.T.Transport.traffic c.receive.new.transport in
    let was = c.args.connection.now in
    let noted = c.note_now.ensures in
    let read = c.receive.ensures in
    let got = c.in-Nothing.ensures.shown in
    let request = got.0 in
    let begun : c.note_now.new.connection.request.items ≡ was.request.items = λ i. (noted.unchanged i).items in
    let number = read.number in
    let stage = read.stage in
    let former_number = noted.number in
    let former_stage = noted.stage in
    let answer : c.receive.new.self.answer.items ≡ c.note_now.new.connection.answer.items = λ i. (read.unanswered i).items in
    let former_answer : c.note_now.new.connection.answer.items ≡ was.answer.items = λ i. (noted.answer i).items in
    let handed = read.handed in
    let former_handed = noted.handed in
    lacks_left terms a b was _ (λ u others. kept_alike terms a b was _ others got.1 (cc) (cc) (cc) (cc) (cc))

pub returns-in-Broken-clause-shown : goal.returns-in-Broken-clause-shown
returns-in-Broken-clause-shown g c = broken_left c.args.self.now.terms (g.T.Transport.traffic c.args.transport.now) (g.T.Transport.traffic c.receive.new.transport) c.args.connection.now c.receive.new.self
    c.note_now.new.connection.number c.in-Broken.ensures.shown c.note_now.ensures.number
