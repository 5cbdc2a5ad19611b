-- The style of the drawing (this project's own): each rule under the class of the drawing alone, so that several stand on
-- one page. A page's codewords have a tint of its hue, and its address codeword is dark in light and light in dark.
use Rattle.std.specs.Prelude.{ℕ, List, [], ◌∷◌, ◌++◌, codes}
use Rattle.std.specs.Fmt.{decimal}

-- The colour of what a page of a hue has, and the colours of its codewords and of its address codeword.
unfoldable pub hue_rule : (hue : ℕ) → (what colour : List ℕ) → List ℕ
hue_rule hue what colour = codes ".pocsag .p" ++ (decimal hue ++ (what ++ (codes "{fill:#" ++ (colour ++ codes "}"))))

unfoldable pub hue_rules : (hue : ℕ) → (tint dark : List ℕ) → List ℕ
hue_rules hue tint dark = hue_rule hue (codes " rect") tint ++ hue_rule hue (codes " rect.k") dark

-- The twelve hues with their colours: those of codewords and of address codewords in light, and then in dark. What is
-- written of a hue is given.
abbrev pub of_hues : ((hue : ℕ) → (tint dark dark_tint light : List ℕ) → List ℕ) → List ℕ
of_hues rules =
    rules 0 (codes "fed6d4") (codes "7a2329") (codes "5c1f32") (codes "ffcdd7")
    ++ (rules 1 (codes "0d9a82") (codes "004c3e") (codes "3c855c") (codes "aee7c3")
    ++ (rules 2 (codes "fed2ff") (codes "632c68") (codes "3a2d59") (codes "e3d3fe")
    ++ (rules 3 (codes "819047") (codes "384801") (codes "857738") (codes "e9daa5")
    ++ (rules 4 (codes "cbe2ff") (codes "03466e") (codes "02394e") (codes "afe1fe")
    ++ (rules 5 (codes "bd7851") (codes "6d310b") (codes "ae6255") (codes "fecfc7")
    ++ (rules 6 (codes "8ceff7") (codes "044a4e") (codes "013c37") (codes "96e9de")
    ++ (rules 7 (codes "c66d90") (codes "781f49") (codes "a16291") (codes "ffcbf0")
    ++ (rules 8 (codes "baecbe") (codes "004d1b") (codes "253b0d") (codes "cce2ae")
    ++ (rules 9 (codes "8382c8") (codes "353c7d") (codes "4e78b4") (codes "c9dafe")
    ++ (rules 10 (codes "f9dca7") (codes "543f01") (codes "4f2d0a") (codes "ffd1ae")
    ++ rules 11 (codes "0195b9") (codes "03485b") (codes "0a8392") (codes "8ee8f7")))))))))))

-- In light: texts and how they are anchored; the ground, synchronisation codewords, the hatching of idles and the lines
-- between frames; and the hues.
unfoldable pub light_style : List ℕ
light_style =
    codes ".pocsag text{fill:#1b1d21;font:11px sans-serif}.pocsag .t{font-size:15px}"
    ++ (codes ".pocsag .m,.pocsag .l{text-anchor:middle}.pocsag .e{text-anchor:end}.pocsag .l{fill:#fff;font-weight:bold}"
    ++ (codes ".pocsag .b{fill:#fff}.pocsag .s{fill:#777b82}.pocsag .f{fill:none;stroke:#fff;stroke-width:2}"
    ++ (codes ".pocsag .h{stroke:#8a8f98;stroke-width:18;stroke-dasharray:1.4 4.2}"
    ++ of_hues (λ hue tint dark dark_tint light. hue_rules hue tint dark))))

-- What of these differs where dark is preferred.
unfoldable pub dark_style : List ℕ
dark_style =
    codes ".pocsag text{fill:#fff}.pocsag .l{fill:#16181c}.pocsag .b{fill:#16181c}.pocsag .s{fill:#8a8f98}"
    ++ (codes ".pocsag .h{stroke:#6b717b}.pocsag .f{stroke:#16181c}"
    ++ of_hues (λ hue tint dark dark_tint light. hue_rules hue dark_tint light))

-- Printing is in light.
unfoldable pub style : List ℕ
style =
    codes "<style type='text/css'>" ++ (light_style ++ (codes "@media screen and (prefers-color-scheme:dark){"
    ++ (dark_style ++ (codes "}</style>" ++ (10 ∷ [])))))
