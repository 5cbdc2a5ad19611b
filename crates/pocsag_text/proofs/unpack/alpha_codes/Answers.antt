use Rattle.pocsag_text.proofs.Prelude.{◌≡◌, ◌/◌, ◌<◌, ◌^◌, List, ℕ, length, ◌++◌, [], take, get_or, sym, ap, ◌∙◌, flat_map, append-nil, flat_map_more, take_all, take_more, take_rest, All-append, All-drop, flat_map-append, high_first, low_first, low_number, cut, item_bits, codes_of}
use Rattle.pocsag_text.proofs.SevenItems.{five_groups_small, front_moved, seven_taken}
use Rattle.pocsag_text.proofs.unpack.alpha_codes.Goals as goal

pub loop-rest-preserved : goal.loop-rest-preserved
loop-rest-preserved c =
    let loop = c.loop-rest in
    let rest = loop.rest.now in
    let old = loop.codes.items in
    let p = c.codes_of_group.result in
    let q = c.codes_of_group-in-loop-rest.result in
    let r = c.codes_of_group-in-loop-rest-2.result in
    let s = c.codes_of_group-in-loop-rest-3.result in
    let t = c.codes_of_group-in-loop-rest-4.result in
    let twenty : List ℕ = p ++ (q ++ (r ++ (s ++ (t ++ [])))) in
    let more : c.extend_from_slice.new.self.items ≡ old ++ twenty =
    c.in_ok-extend_from_slice.ensures.items ∙ ap (λ new. old ++ new) c.as_flattened.ensures.value in
    let taken : flat_map (low_first 7) (old ++ twenty) ≡ flat_map (low_first 7) old ++ item_bits (take 7 rest) =
    flat_map-append (low_first 7) old twenty
    ∙ ap (λ bits. flat_map (low_first 7) old ++ bits)
    (seven_taken rest p q r s t c.loop-rest-test.true loop.invariant.left c.codes_of_group.ensures.bits c.codes_of_group-in-loop-rest.ensures.bits
    c.codes_of_group-in-loop-rest-2.ensures.bits c.codes_of_group-in-loop-rest-3.ensures.bits c.codes_of_group-in-loop-rest-4.ensures.bits) in
    let small = five_groups_small p q r s t c.codes_of_group.ensures.small c.codes_of_group-in-loop-rest.ensures.small c.codes_of_group-in-loop-rest-2.ensures.small
    c.codes_of_group-in-loop-rest-3.ensures.small c.codes_of_group-in-loop-rest-4.ensures.small in
    let cut = take_rest rest 7 in
    rw more (record {
      bits = rw cut (front_moved (high_first 20) (flat_map (low_first 7) old) _ _ rest 7 taken loop.invariant.bits);
      small = All-append (λ (code : ℕ). code < 128) old twenty loop.invariant.small small;
      left = rw cut (All-drop (λ (item : ℕ). item < 2 ^ 20) 7 rest loop.invariant.left);
    })

pub returns-clause-codes : goal.returns-clause-codes
returns-clause-codes c = rw c.loop-rest.invariant.bits at c.codes_of.ensures.codes
