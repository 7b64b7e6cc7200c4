-- The definitions answer as recorded: antt computes it. By tools/model-replay. Assumes nothing.
use mathlib.Core.Path.{refl}
use Rattle.against_rust.specs.Shape.{RunHolds}
use Rattle.against_rust.proofs.OpenRuns.{open-runs}
use Rattle.recorded.specs.Runs0.{run0, run1, run2, run3, run4, run5, run6, run7, run8, run9, run10, run11, run12, run13, run14, run15, run16, run17, run18, run19, run20, run21, run22, run23, run24, run25, run26, run27, run28, run29, run30, run31, run32, run33, run34, run35, run36, run37, run38, run39, run40, run41, run42, run43, run44, run45, run46, run47, run48, run49, run50, run51, run52, run53, run54, run55, run56, run57, run58, run59, run60, run61, run62, run63, run64, run65, run66, run67, run68, run69, run70, run71, run72, run73, run74, run75, run76, run77, run78, run79, run80, run81, run82, run83, run84, run85, run86, run87, run88, run89, run90, run91, run92, run93, run94, run95, run96, run97, run98, run99, run100, run101, run102, run103, run104, run105, run106, run107, run108, run109, run110, run111, run112, run113, run114, run115, run116, run117, run118, run119, run120, run121, run122, run123, run124, run125, run126, run127, run128, run129, run130, run131, run132, run133, run134, run135, run136, run137, run138, run139, run140, run141, run142, run143, run144, run145, run146, run147, run148, run149, run150, run151, run152, run153, run154, run155, run156, run157, run158, run159, run160, run161, run162, run163, run164, run165, run166, run167, run168, run169, run170, run171, run172, run173, run174, run175, run176, run177, run178, run179, run180, run181, run182, run183, run184, run185, run186, run187, run188, run189, run190, run191, run192, run193, run194, run195, run196, run197, run198, run199, run200, run201, run202, run203, run204, run205, run206, run207, run208, run209}

pub hold0 : RunHolds run0
unfolding open-runs run0
hold0 = refl

pub hold1 : RunHolds run1
unfolding open-runs run1
hold1 = refl

pub hold2 : RunHolds run2
unfolding open-runs run2
hold2 = refl

pub hold3 : RunHolds run3
unfolding open-runs run3
hold3 = refl

pub hold4 : RunHolds run4
unfolding open-runs run4
hold4 = refl

pub hold5 : RunHolds run5
unfolding open-runs run5
hold5 = refl

pub hold6 : RunHolds run6
unfolding open-runs run6
hold6 = refl

pub hold7 : RunHolds run7
unfolding open-runs run7
hold7 = refl

pub hold8 : RunHolds run8
unfolding open-runs run8
hold8 = refl

pub hold9 : RunHolds run9
unfolding open-runs run9
hold9 = refl

pub hold10 : RunHolds run10
unfolding open-runs run10
hold10 = refl

pub hold11 : RunHolds run11
unfolding open-runs run11
hold11 = refl

pub hold12 : RunHolds run12
unfolding open-runs run12
hold12 = refl

pub hold13 : RunHolds run13
unfolding open-runs run13
hold13 = refl

pub hold14 : RunHolds run14
unfolding open-runs run14
hold14 = refl

pub hold15 : RunHolds run15
unfolding open-runs run15
hold15 = refl

pub hold16 : RunHolds run16
unfolding open-runs run16
hold16 = refl

pub hold17 : RunHolds run17
unfolding open-runs run17
hold17 = refl

pub hold18 : RunHolds run18
unfolding open-runs run18
hold18 = refl

pub hold19 : RunHolds run19
unfolding open-runs run19
hold19 = refl

pub hold20 : RunHolds run20
unfolding open-runs run20
hold20 = refl

pub hold21 : RunHolds run21
unfolding open-runs run21
hold21 = refl

pub hold22 : RunHolds run22
unfolding open-runs run22
hold22 = refl

pub hold23 : RunHolds run23
unfolding open-runs run23
hold23 = refl

pub hold24 : RunHolds run24
unfolding open-runs run24
hold24 = refl

pub hold25 : RunHolds run25
unfolding open-runs run25
hold25 = refl

pub hold26 : RunHolds run26
unfolding open-runs run26
hold26 = refl

pub hold27 : RunHolds run27
unfolding open-runs run27
hold27 = refl

pub hold28 : RunHolds run28
unfolding open-runs run28
hold28 = refl

pub hold29 : RunHolds run29
unfolding open-runs run29
hold29 = refl

pub hold30 : RunHolds run30
unfolding open-runs run30
hold30 = refl

pub hold31 : RunHolds run31
unfolding open-runs run31
hold31 = refl

pub hold32 : RunHolds run32
unfolding open-runs run32
hold32 = refl

pub hold33 : RunHolds run33
unfolding open-runs run33
hold33 = refl

pub hold34 : RunHolds run34
unfolding open-runs run34
hold34 = refl

pub hold35 : RunHolds run35
unfolding open-runs run35
hold35 = refl

pub hold36 : RunHolds run36
unfolding open-runs run36
hold36 = refl

pub hold37 : RunHolds run37
unfolding open-runs run37
hold37 = refl

pub hold38 : RunHolds run38
unfolding open-runs run38
hold38 = refl

pub hold39 : RunHolds run39
unfolding open-runs run39
hold39 = refl

pub hold40 : RunHolds run40
unfolding open-runs run40
hold40 = refl

pub hold41 : RunHolds run41
unfolding open-runs run41
hold41 = refl

pub hold42 : RunHolds run42
unfolding open-runs run42
hold42 = refl

pub hold43 : RunHolds run43
unfolding open-runs run43
hold43 = refl

pub hold44 : RunHolds run44
unfolding open-runs run44
hold44 = refl

pub hold45 : RunHolds run45
unfolding open-runs run45
hold45 = refl

pub hold46 : RunHolds run46
unfolding open-runs run46
hold46 = refl

pub hold47 : RunHolds run47
unfolding open-runs run47
hold47 = refl

pub hold48 : RunHolds run48
unfolding open-runs run48
hold48 = refl

pub hold49 : RunHolds run49
unfolding open-runs run49
hold49 = refl

pub hold50 : RunHolds run50
unfolding open-runs run50
hold50 = refl

pub hold51 : RunHolds run51
unfolding open-runs run51
hold51 = refl

pub hold52 : RunHolds run52
unfolding open-runs run52
hold52 = refl

pub hold53 : RunHolds run53
unfolding open-runs run53
hold53 = refl

pub hold54 : RunHolds run54
unfolding open-runs run54
hold54 = refl

pub hold55 : RunHolds run55
unfolding open-runs run55
hold55 = refl

pub hold56 : RunHolds run56
unfolding open-runs run56
hold56 = refl

pub hold57 : RunHolds run57
unfolding open-runs run57
hold57 = refl

pub hold58 : RunHolds run58
unfolding open-runs run58
hold58 = refl

pub hold59 : RunHolds run59
unfolding open-runs run59
hold59 = refl

pub hold60 : RunHolds run60
unfolding open-runs run60
hold60 = refl

pub hold61 : RunHolds run61
unfolding open-runs run61
hold61 = refl

pub hold62 : RunHolds run62
unfolding open-runs run62
hold62 = refl

pub hold63 : RunHolds run63
unfolding open-runs run63
hold63 = refl

pub hold64 : RunHolds run64
unfolding open-runs run64
hold64 = refl

pub hold65 : RunHolds run65
unfolding open-runs run65
hold65 = refl

pub hold66 : RunHolds run66
unfolding open-runs run66
hold66 = refl

pub hold67 : RunHolds run67
unfolding open-runs run67
hold67 = refl

pub hold68 : RunHolds run68
unfolding open-runs run68
hold68 = refl

pub hold69 : RunHolds run69
unfolding open-runs run69
hold69 = refl

pub hold70 : RunHolds run70
unfolding open-runs run70
hold70 = refl

pub hold71 : RunHolds run71
unfolding open-runs run71
hold71 = refl

pub hold72 : RunHolds run72
unfolding open-runs run72
hold72 = refl

pub hold73 : RunHolds run73
unfolding open-runs run73
hold73 = refl

pub hold74 : RunHolds run74
unfolding open-runs run74
hold74 = refl

pub hold75 : RunHolds run75
unfolding open-runs run75
hold75 = refl

pub hold76 : RunHolds run76
unfolding open-runs run76
hold76 = refl

pub hold77 : RunHolds run77
unfolding open-runs run77
hold77 = refl

pub hold78 : RunHolds run78
unfolding open-runs run78
hold78 = refl

pub hold79 : RunHolds run79
unfolding open-runs run79
hold79 = refl

pub hold80 : RunHolds run80
unfolding open-runs run80
hold80 = refl

pub hold81 : RunHolds run81
unfolding open-runs run81
hold81 = refl

pub hold82 : RunHolds run82
unfolding open-runs run82
hold82 = refl

pub hold83 : RunHolds run83
unfolding open-runs run83
hold83 = refl

pub hold84 : RunHolds run84
unfolding open-runs run84
hold84 = refl

pub hold85 : RunHolds run85
unfolding open-runs run85
hold85 = refl

pub hold86 : RunHolds run86
unfolding open-runs run86
hold86 = refl

pub hold87 : RunHolds run87
unfolding open-runs run87
hold87 = refl

pub hold88 : RunHolds run88
unfolding open-runs run88
hold88 = refl

pub hold89 : RunHolds run89
unfolding open-runs run89
hold89 = refl

pub hold90 : RunHolds run90
unfolding open-runs run90
hold90 = refl

pub hold91 : RunHolds run91
unfolding open-runs run91
hold91 = refl

pub hold92 : RunHolds run92
unfolding open-runs run92
hold92 = refl

pub hold93 : RunHolds run93
unfolding open-runs run93
hold93 = refl

pub hold94 : RunHolds run94
unfolding open-runs run94
hold94 = refl

pub hold95 : RunHolds run95
unfolding open-runs run95
hold95 = refl

pub hold96 : RunHolds run96
unfolding open-runs run96
hold96 = refl

pub hold97 : RunHolds run97
unfolding open-runs run97
hold97 = refl

pub hold98 : RunHolds run98
unfolding open-runs run98
hold98 = refl

pub hold99 : RunHolds run99
unfolding open-runs run99
hold99 = refl

pub hold100 : RunHolds run100
unfolding open-runs run100
hold100 = refl

pub hold101 : RunHolds run101
unfolding open-runs run101
hold101 = refl

pub hold102 : RunHolds run102
unfolding open-runs run102
hold102 = refl

pub hold103 : RunHolds run103
unfolding open-runs run103
hold103 = refl

pub hold104 : RunHolds run104
unfolding open-runs run104
hold104 = refl

pub hold105 : RunHolds run105
unfolding open-runs run105
hold105 = refl

pub hold106 : RunHolds run106
unfolding open-runs run106
hold106 = refl

pub hold107 : RunHolds run107
unfolding open-runs run107
hold107 = refl

pub hold108 : RunHolds run108
unfolding open-runs run108
hold108 = refl

pub hold109 : RunHolds run109
unfolding open-runs run109
hold109 = refl

pub hold110 : RunHolds run110
unfolding open-runs run110
hold110 = refl

pub hold111 : RunHolds run111
unfolding open-runs run111
hold111 = refl

pub hold112 : RunHolds run112
unfolding open-runs run112
hold112 = refl

pub hold113 : RunHolds run113
unfolding open-runs run113
hold113 = refl

pub hold114 : RunHolds run114
unfolding open-runs run114
hold114 = refl

pub hold115 : RunHolds run115
unfolding open-runs run115
hold115 = refl

pub hold116 : RunHolds run116
unfolding open-runs run116
hold116 = refl

pub hold117 : RunHolds run117
unfolding open-runs run117
hold117 = refl

pub hold118 : RunHolds run118
unfolding open-runs run118
hold118 = refl

pub hold119 : RunHolds run119
unfolding open-runs run119
hold119 = refl

pub hold120 : RunHolds run120
unfolding open-runs run120
hold120 = refl

pub hold121 : RunHolds run121
unfolding open-runs run121
hold121 = refl

pub hold122 : RunHolds run122
unfolding open-runs run122
hold122 = refl

pub hold123 : RunHolds run123
unfolding open-runs run123
hold123 = refl

pub hold124 : RunHolds run124
unfolding open-runs run124
hold124 = refl

pub hold125 : RunHolds run125
unfolding open-runs run125
hold125 = refl

pub hold126 : RunHolds run126
unfolding open-runs run126
hold126 = refl

pub hold127 : RunHolds run127
unfolding open-runs run127
hold127 = refl

pub hold128 : RunHolds run128
unfolding open-runs run128
hold128 = refl

pub hold129 : RunHolds run129
unfolding open-runs run129
hold129 = refl

pub hold130 : RunHolds run130
unfolding open-runs run130
hold130 = refl

pub hold131 : RunHolds run131
unfolding open-runs run131
hold131 = refl

pub hold132 : RunHolds run132
unfolding open-runs run132
hold132 = refl

pub hold133 : RunHolds run133
unfolding open-runs run133
hold133 = refl

pub hold134 : RunHolds run134
unfolding open-runs run134
hold134 = refl

pub hold135 : RunHolds run135
unfolding open-runs run135
hold135 = refl

pub hold136 : RunHolds run136
unfolding open-runs run136
hold136 = refl

pub hold137 : RunHolds run137
unfolding open-runs run137
hold137 = refl

pub hold138 : RunHolds run138
unfolding open-runs run138
hold138 = refl

pub hold139 : RunHolds run139
unfolding open-runs run139
hold139 = refl

pub hold140 : RunHolds run140
unfolding open-runs run140
hold140 = refl

pub hold141 : RunHolds run141
unfolding open-runs run141
hold141 = refl

pub hold142 : RunHolds run142
unfolding open-runs run142
hold142 = refl

pub hold143 : RunHolds run143
unfolding open-runs run143
hold143 = refl

pub hold144 : RunHolds run144
unfolding open-runs run144
hold144 = refl

pub hold145 : RunHolds run145
unfolding open-runs run145
hold145 = refl

pub hold146 : RunHolds run146
unfolding open-runs run146
hold146 = refl

pub hold147 : RunHolds run147
unfolding open-runs run147
hold147 = refl

pub hold148 : RunHolds run148
unfolding open-runs run148
hold148 = refl

pub hold149 : RunHolds run149
unfolding open-runs run149
hold149 = refl

pub hold150 : RunHolds run150
unfolding open-runs run150
hold150 = refl

pub hold151 : RunHolds run151
unfolding open-runs run151
hold151 = refl

pub hold152 : RunHolds run152
unfolding open-runs run152
hold152 = refl

pub hold153 : RunHolds run153
unfolding open-runs run153
hold153 = refl

pub hold154 : RunHolds run154
unfolding open-runs run154
hold154 = refl

pub hold155 : RunHolds run155
unfolding open-runs run155
hold155 = refl

pub hold156 : RunHolds run156
unfolding open-runs run156
hold156 = refl

pub hold157 : RunHolds run157
unfolding open-runs run157
hold157 = refl

pub hold158 : RunHolds run158
unfolding open-runs run158
hold158 = refl

pub hold159 : RunHolds run159
unfolding open-runs run159
hold159 = refl

pub hold160 : RunHolds run160
unfolding open-runs run160
hold160 = refl

pub hold161 : RunHolds run161
unfolding open-runs run161
hold161 = refl

pub hold162 : RunHolds run162
unfolding open-runs run162
hold162 = refl

pub hold163 : RunHolds run163
unfolding open-runs run163
hold163 = refl

pub hold164 : RunHolds run164
unfolding open-runs run164
hold164 = refl

pub hold165 : RunHolds run165
unfolding open-runs run165
hold165 = refl

pub hold166 : RunHolds run166
unfolding open-runs run166
hold166 = refl

pub hold167 : RunHolds run167
unfolding open-runs run167
hold167 = refl

pub hold168 : RunHolds run168
unfolding open-runs run168
hold168 = refl

pub hold169 : RunHolds run169
unfolding open-runs run169
hold169 = refl

pub hold170 : RunHolds run170
unfolding open-runs run170
hold170 = refl

pub hold171 : RunHolds run171
unfolding open-runs run171
hold171 = refl

pub hold172 : RunHolds run172
unfolding open-runs run172
hold172 = refl

pub hold173 : RunHolds run173
unfolding open-runs run173
hold173 = refl

pub hold174 : RunHolds run174
unfolding open-runs run174
hold174 = refl

pub hold175 : RunHolds run175
unfolding open-runs run175
hold175 = refl

pub hold176 : RunHolds run176
unfolding open-runs run176
hold176 = refl

pub hold177 : RunHolds run177
unfolding open-runs run177
hold177 = refl

pub hold178 : RunHolds run178
unfolding open-runs run178
hold178 = refl

pub hold179 : RunHolds run179
unfolding open-runs run179
hold179 = refl

pub hold180 : RunHolds run180
unfolding open-runs run180
hold180 = refl

pub hold181 : RunHolds run181
unfolding open-runs run181
hold181 = refl

pub hold182 : RunHolds run182
unfolding open-runs run182
hold182 = refl

pub hold183 : RunHolds run183
unfolding open-runs run183
hold183 = refl

pub hold184 : RunHolds run184
unfolding open-runs run184
hold184 = refl

pub hold185 : RunHolds run185
unfolding open-runs run185
hold185 = refl

pub hold186 : RunHolds run186
unfolding open-runs run186
hold186 = refl

pub hold187 : RunHolds run187
unfolding open-runs run187
hold187 = refl

pub hold188 : RunHolds run188
unfolding open-runs run188
hold188 = refl

pub hold189 : RunHolds run189
unfolding open-runs run189
hold189 = refl

pub hold190 : RunHolds run190
unfolding open-runs run190
hold190 = refl

pub hold191 : RunHolds run191
unfolding open-runs run191
hold191 = refl

pub hold192 : RunHolds run192
unfolding open-runs run192
hold192 = refl

pub hold193 : RunHolds run193
unfolding open-runs run193
hold193 = refl

pub hold194 : RunHolds run194
unfolding open-runs run194
hold194 = refl

pub hold195 : RunHolds run195
unfolding open-runs run195
hold195 = refl

pub hold196 : RunHolds run196
unfolding open-runs run196
hold196 = refl

pub hold197 : RunHolds run197
unfolding open-runs run197
hold197 = refl

pub hold198 : RunHolds run198
unfolding open-runs run198
hold198 = refl

pub hold199 : RunHolds run199
unfolding open-runs run199
hold199 = refl

pub hold200 : RunHolds run200
unfolding open-runs run200
hold200 = refl

pub hold201 : RunHolds run201
unfolding open-runs run201
hold201 = refl

pub hold202 : RunHolds run202
unfolding open-runs run202
hold202 = refl

pub hold203 : RunHolds run203
unfolding open-runs run203
hold203 = refl

pub hold204 : RunHolds run204
unfolding open-runs run204
hold204 = refl

pub hold205 : RunHolds run205
unfolding open-runs run205
hold205 = refl

pub hold206 : RunHolds run206
unfolding open-runs run206
hold206 = refl

pub hold207 : RunHolds run207
unfolding open-runs run207
hold207 = refl

pub hold208 : RunHolds run208
unfolding open-runs run208
hold208 = refl

pub hold209 : RunHolds run209
unfolding open-runs run209
hold209 = refl
