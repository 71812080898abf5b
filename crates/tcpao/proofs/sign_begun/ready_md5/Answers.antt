-- The header is the front of its array: the law of SignedLaws.
use Rattle.traffic.specs.Flow.{flow_of}
use Rattle.tcpao.proofs.SignedLaws.{md5-starts}
use Rattle.tcpao.proofs.sign_begun.ready_md5.Goals as goal

pub returns : goal.returns
returns c =
    let a = c.args in
    md5-starts a.granted.secret a.state a.segment.now c.requires.0 a.granted.position c.len.ensures (flow_of c.leaving_flow-flow.result) c.begin-mac.result
    c.leaving_sum.result c.header_bytes-old.ensures.bytes c.requires.1 c.leaving_flow-flow.ensures c.blank_header-header.ensures
    c.begin-mac.ensures c.leaving_sum.ensures
